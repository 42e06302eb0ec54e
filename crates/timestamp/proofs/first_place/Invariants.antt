use mathlib.Core.Path.{◌≡◌}
use mathlib.Core.Bool.{Bool}
use Prim.Native.Nat.{ℕ, ◌-◌, ◌<◌}
use lib.ListN.{length}
use Rattle.timestamp.specs.Dates.{first_from, first_place}
use Rattle.timestamp.proofs.first_place.Given as goal

abbrev pub invariant-loop-i : goal.invariant-loop-i
invariant-loop-i g l =
    (p : ℕ → Bool) → ((k : ℕ) (b : Bool) → k < length l.path → goal.F-post g l.test k b → b ≡ p k)
    → first_place p l.path ≡ first_from p l.i (length l.path - l.i)
