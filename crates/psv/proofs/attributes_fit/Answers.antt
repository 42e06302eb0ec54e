use native.Mathlib.Omega.{arith}
use mathlib.Core.Path.{sym}
use lib.ListN.{length}
use Prim.Native.Nat.{◌≤◌}
use borrow.Author.Tests.{le-leb}
use Rattle.output.proofs.Writing.{holds}
use Rattle.psv.specs.Line.{attributes_text}
use Rattle.psv.proofs.Longest.{attributes_le}
use Rattle.psv.proofs.attributes_fit.Goals as goal

pub returns-then-surely : goal.returns-then-surely
returns-then-surely c =
    let h : length (attributes_text c.args.a) ≤ 108 = search attributes_le in sym (le-leb _ _ (omega arith))

pub returns : goal.returns
returns c = let h : length (attributes_text c.args.a) ≤ 108 = search attributes_le in rw (holds c.write_attributes.ensures c.new-w.ensures.0 (rw c.new-w.ensures.2 h) c.text.ensures)
