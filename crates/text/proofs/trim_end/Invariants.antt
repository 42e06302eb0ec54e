use mathlib.Core.Path.{◌≡◌}
use Prim.Native.Nat.{◌≤◌}
use lib.ListN.{length, take}
use Rattle.text.specs.White.{trim_end}
use Rattle.text.proofs.trim_end.Given as goal

abbrev pub invariant-loop-k : goal.invariant-loop-k
invariant-loop-k l = (l.n ≤ length l.s) × (trim_end l.s ≡ trim_end (take l.n l.s))

abbrev pub decreases-loop-k : goal.decreases-loop-k
decreases-loop-k l = l.n
