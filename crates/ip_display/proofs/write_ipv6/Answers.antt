use Rattle.std.proofs.Common.{◌≡◌, ◌%◌, bit_and, arith}
use Rattle.std.proofs.lemmas.Grind.{common_steps}
use Rattle.ip_display.proofs.Writing.{mapped_written, plain_written}
use Rattle.ip_display.proofs.write_ipv6.Goals as goal

pub returns-then-u-l : goal.returns-then-u-l
returns-then-u-l c =
    let low : bit_and c.args.l 4294967295 ≡ c.args.l % 4294967296 = grind (arith, common_steps) in
    mapped_written _ _ c.if-u-l.true _ _ _ c.bytes.ensures (rw low at c.write_ipv4.ensures)

pub returns : goal.returns
returns c = plain_written _ _ c.if-u-l.false _ _ _ c.groups.ensures c.write_plain.ensures
