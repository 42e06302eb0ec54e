use Rattle.std.proofs.Common.{◌≡◌, length, rules, arith}
use Rattle.ip_display.proofs.Writing.{plain_joined, plain_shortened}
use Rattle.ip_display.proofs.write_plain.Goals as goal

pub returns-then-alone : goal.returns-then-alone
returns-then-alone c = plain_joined _ _ _ c.longest_run-start.ensures.0 c.longest_run-start.ensures.1 (omega arith) _ _ c.write_groups.ensures

pub returns : goal.returns
returns c =
    let eight : length c.args.g ≡ 8 = search rules in
    plain_shortened _ _ _ c.longest_run-start.ensures.0 c.longest_run-start.ensures.1 (omega arith) eight _ _ _ _ c.write_groups-2.ensures c.bytes.ensures
    c.write_groups-3.ensures
