use mathlib.Core.Path.{◌≡◌}
use borrow.Author.Rules.{rules}
use Rattle.std.specs.Prelude.{option_map}
use Rattle.network.specs.declared.Asn.{Asn}
use Rattle.output.proofs.Writing.{then}
use Rattle.psv.specs.Line.{attributes_of, tail_text}
use Rattle.psv.proofs.Printing.{asn_number}
use Rattle.psv.proofs.write_tail.Goals as goal

pub returns : goal.returns
unfolding tail_text
returns c =
    let m : c.map.result ≡ option_map (λ (a : Asn). a.0) c.args.e.origin_asn = search rules in
    let n = rw (m, asn_number _) at c.write_number.ensures in
    let a : c.from.result ≡ attributes_of c.args.e = search rules in
    then (then (then c.byte.ensures n) (rw a at c.write_attributes.ensures)) c.byte-2.ensures
