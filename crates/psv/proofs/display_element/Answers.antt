use lib.ListN.{length}
use Prim.Native.Nat.{◌≤◌}
use native.Mathlib.Omega.{arith}
use Rattle.psv.specs.Line.{attributes_of, attributes_text}
use Rattle.psv.proofs.Printing.{display_line}
use Rattle.psv.proofs.Longest.{short_tail_le}
use Rattle.psv.proofs.display_element.Goals as goal

pub returns : goal.returns
returns c =
    let h : length (attributes_text (attributes_of c.args.e)) ≤ 108 = search short_tail_le in
    rw (← display_line c.args.e c.args.asns.now) (c.put_ended.ensures (attributes_text (attributes_of c.args.e)) (omega (arith, h)) (λ v w p. p.1))
