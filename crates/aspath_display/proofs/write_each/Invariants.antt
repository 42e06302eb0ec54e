use Rattle.std.proofs.Common.{List, ℕ, ◌≡◌, true}
use Rattle.output.specs.Writing.{Writes}
use Rattle.aspath_display.specs.Display.{separated, WritesEach}
use Rattle.aspath_display.proofs.Text.{is_none}
use Rattle.aspath_display.proofs.write_each.Given as goal

abbrev pub invariant-loop-item : goal.invariant-loop-item
invariant-loop-item g l =
    (l.first ≡ is_none l.yielded)
    × ((text : g.row.I-Item.Denot → List ℕ) → WritesEach (goal.F-post g l.write) text → Writes (separated l.sep text true l.yielded) l.initial.w l.w)
