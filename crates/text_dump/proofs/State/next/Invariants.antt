use mathlib.Core.Path.{◌≡◌}
use Prim.Native.Nat.{◌-◌, ◌≤◌}
use lib.ListN.{length}
use Rattle.text_dump.proofs.NextLaws.{Came}
use Rattle.text_dump.proofs.State.next.Given as goal

abbrev pub invariant-loop-at : goal.invariant-loop-at
invariant-loop-at l = (l.asns ≡ l.initial.asns) × (l.self.position ≤ length l.part) × (l.at ≤ length l.part) × Came l.self l.part l.at l.remembered

abbrev pub decreases-loop-at : goal.decreases-loop-at
decreases-loop-at l = length l.part - l.at
