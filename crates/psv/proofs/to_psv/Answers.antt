use lib.ListN.{length}
use Prim.Native.Nat.{◌≤◌}
use Rattle.psv.specs.Line.{tail_text}
use Rattle.psv.proofs.Printing.{psv_line}
use Rattle.psv.proofs.Longest.{tail_le}
use Rattle.psv.proofs.to_psv.Goals as goal

pub returns : goal.returns
returns c =
    let h : length (tail_text c.args.e) ≤ 130 = search tail_le in
    rw (← psv_line c.args.e c.args.asns.now) (c.put_ended.ensures (tail_text c.args.e) h (λ v w p. p.1))
