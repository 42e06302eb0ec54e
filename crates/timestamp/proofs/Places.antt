-- The first place at which a test holds, whichever test it is. Assumes nothing.
use mathlib.Core.Path.{◌≡◌, sym, ◌∙◌}
use mathlib.Core.Bool.{Bool, true, false, cond}
use mathlib.Core.List.{List}
use Rattle.std.specs.Prelude.{Some, None}
use Prim.Native.Nat.{ℕ, suc, ◌+◌, ◌-◌, ◌≤◌, ◌<◌}
use native.Mathlib.Numerals.{add-one}
use native.Mathlib.Omega.{arith}
use lib.ListN.{length}
use Rattle.timestamp.specs.Dates.{first_from, first_place}

-- no place has been passed
pub all_places : (test : ℕ → Bool) (path : List ℕ) → first_place test path ≡ first_from test 0 (length path - 0)
all_places test path = let z : length path - 0 ≡ length path = omega arith in rw z

-- the places before i have been passed
module _ (test : ℕ → Bool) (path : List ℕ) (i : ℕ) (e : first_place test path ≡ first_from test i (length path - i)) where
  pub no_place : length path ≤ i → None ≡ first_place test path
  unfolding first_from
  no_place h = let z : length path - i ≡ 0 = omega arith in sym (e ∙ rw z)

  module _ (h : i < length path) (b : Bool) (f : b ≡ test i) where
    step : first_place test path ≡ cond b (Some i) (first_from test (i + 1) (length path - (i + 1)))
    unfolding first_from
    step = let z : length path - i ≡ suc (length path - (i + 1)) = omega arith in e ∙ rw (z, ← f, add-one i)

    pub at_place : b ≡ true → Some i ≡ first_place test path
    at_place g = sym (step ∙ rw g)

    pub next_place : b ≡ false → first_place test path ≡ first_from test (i + 1) (length path - (i + 1))
    next_place g = step ∙ rw g
