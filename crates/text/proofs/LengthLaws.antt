-- Laws of a length and the answer for it, which is None where it is 0.
use Rattle.std.specs.Prelude.{Option, Some, None, unwrap_or}
use Rattle.std.specs.Bool.{then_some}
use Rattle.std.specs.Option.{option_eq}
use Rattle.std.proofs.lemmas.Option.{none-some}
use mathlib.Core.Path.{◌≡◌, refl, sym, ap, ◌∙◌}
use mathlib.Core.Bool.{Bool, true, false, cond}
use Prim.Native.Nat.{ℕ, zero, suc, ◌<◌}
use native.Mathlib.Omega.{arith}
use lib.Dec.{eqb}
use borrow.Author.Tests.{eqb-true, eqb-false}
use Rattle.text.specs.White.{unless_zero}

-- the answer that a length gives
pub zero_none : (n : ℕ) → 0 ≡ n → None ≡ unless_zero n
unfolding unless_zero
zero_none n z = rw (← z) refl

pub more_some : (k n : ℕ) → k ≡ n → 0 < k → Some k ≡ unless_zero n
unfolding unless_zero
more_some k zero e h = absurd (omega arith)
more_some k (suc n) e h = ap Some e

pub one_some : (t : Bool) (o : Option ℕ) (n : ℕ) → o ≡ then_some t 1 → n ≡ cond t 1 0 → o ≡ unless_zero n
unfolding unless_zero
one_some true o n e f = rw f e
one_some false o n e f = rw f e

-- the length that an answer tells
pub none_zero : (n : ℕ) → None ≡ unless_zero n → n ≡ 0
unfolding unless_zero
none_zero zero e = refl
none_zero (suc n) e = absurd (none-some (suc n) e)

pub some_more : (k n : ℕ) → Some k ≡ unless_zero n → (k ≡ n) × (0 < k)
unfolding unless_zero
some_more k zero e = absurd (none-some k (sym e))
some_more k (suc n) e = let z : k ≡ suc n = ap (λ o. unwrap_or o 0) e in (z, omega arith)

-- whether the answer is Some k
module _ (k : ℕ) (o : Option ℕ) where
  pub told_same : (n : ℕ) (r : Bool) → o ≡ unless_zero n → r ≡ option_eq eqb o (Some k) → r ≡ true → k ≡ n
  unfolding unless_zero
  told_same zero r e q y = absurd (let z : ◌≡◌ {A = ℕ} 0 1 = cc (q, e, y) in omega arith)
  told_same (suc n) r e q y = sym (eqb-true (suc n) k (sym (q ∙ ap (λ o. option_eq eqb o (Some k)) e) ∙ y))

  pub told_other : (n : ℕ) (r : Bool) → o ≡ unless_zero n → r ≡ option_eq eqb o (Some k) → r ≡ false → 0 < k → n ≡ k → ⊥
  unfolding unless_zero
  told_other zero r e q y h = λ z. omega arith
  told_other (suc n) r e q y h = eqb-false (suc n) k (sym (q ∙ ap (λ o. option_eq eqb o (Some k)) e) ∙ y)
