use mathlib.Core.Path.{◌≡◌}
use Prim.Native.Nat.{◌-◌, ◌≤◌}
use lib.ListN.{length, drop}
use Rattle.text.specs.White.{trim_start}
use Rattle.text.proofs.trim_start.Given as goal

abbrev pub invariant-loop-k : goal.invariant-loop-k
invariant-loop-k l = (l.i ≤ length l.s) × (trim_start l.s ≡ trim_start (drop l.i l.s))

abbrev pub decreases-loop-k : goal.decreases-loop-k
decreases-loop-k l = length l.s - l.i
