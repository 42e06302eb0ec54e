-- What tests say that passed.
use mathlib.Core.Path.{◌≡◌, refl}
use mathlib.Core.Bool.{Bool, true, false, ◌&&◌, ◌||◌}
use mathlib.Core.Logic.{◌⊎◌, inl, inr}
use Prim.Native.Nat.{ℕ, ◌≤◌, ◌<◌}
use native.Mathlib.Omega.{arith}
use lib.Dec.{leb}
use borrow.Author.Tests.{leb-true, leb-false}
use Rattle.utf8.specs.Utf8.{within}

pub both : (x y : Bool) → x && y ≡ true → (x ≡ true) × (y ≡ true)
both true y e = (refl, e)
both false y e = let z : ◌≡◌ {A = ℕ} 0 1 = cc in absurd (omega arith)

pub either : (x y : Bool) → x || y ≡ true → (x ≡ true) ⊎ (y ≡ true)
either true y e = inl refl
either false y e = inr e

pub in_range : (lo hi x : ℕ) → within lo hi x ≡ true → (lo ≤ x) × (x ≤ hi)
in_range lo hi x e = let h = both (leb lo x) (leb x hi) e in (leb-true lo x h.0, leb-true x hi h.1)

-- by cases of m ≤ n
pub upto : {C : Type 0} (m n : ℕ) → (m ≤ n → C) → (n < m → C) → C
upto {C = C} m n f g = go (leb m n) refl
  where
    go : (t : Bool) → leb m n ≡ t → C
    go true e = f (leb-true m n e)
    go false e = g (leb-false m n e)
