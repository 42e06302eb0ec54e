-- Laws of reading: one for each way that the loops take.
use Rattle.std.specs.Prelude.{Option, Some, None}
use mathlib.Core.Path.{◌≡◌, refl, sym, ◌∙◌}
use mathlib.Core.List.{List, [], ◌∷◌}
use mathlib.Core.Bool.{Bool, true, false, cond, ◌&&◌}
use Prim.Native.Nat.{ℕ, ◌+◌, ◌-◌, ◌*◌, ◌^◌, ◌≤◌, ◌<◌}
use native.Mathlib.Nat.{suc-ne-zero}
use native.Mathlib.Omega.{arith}
use lib.ListN.{length, get_or, take, drop}
use lib.Dec.{ltb, eqb}
use lib.Pointwise.{pointwise}
use Rattle.decimal.proofs.Power.{power_small, digit_behind}
use Rattle.decimal.proofs.Laws.{none_some, digit_high, behind_step, behind_end, too_big}
use borrow.Author.Tests.{le-ltb, lt-ltb, ltb-false}
use Rattle.decimal.specs.Decimal.{is_digit, behind, digits, unsigned, below, read_digits, read_u64}

-- what is known on the way: the digits so far make v, and the rest is behind them
module _ (s : List ℕ) (i v : ℕ) (e : digits s ≡ behind v (drop i s)) where
  pub at_end_lem : length s ≤ i → v < 2 ^ 64 → Some v ≡ read_digits s
  at_end_lem h k = simp (e, behind_end s i v h, lt-ltb v (2 ^ 64) k)

  module _ (h : i < length s) where
    pub no_digit_at : is_digit (get_or s i 0) ≡ false → None ≡ read_digits s
    no_digit_at d = simp (e, behind_step s i v h, d)

    module _ (d : is_digit (get_or s i 0) ≡ true) where
      pub more : digits s ≡ behind (v * 10 + (get_or s i 0 - 48)) (drop (i + 1) s)
      more = simp (e, behind_step s i v h, d)

      pub over : 2 ^ 64 ≤ v * 10 + (get_or s i 0 - 48) → None ≡ read_digits s
      over g = simp (more, too_big (2 ^ 64) (v * 10 + (get_or s i 0 - 48)) (drop (i + 1) s) g)

-- one more of at most 19 digits
module _ (i v b : ℕ) (p : v < 10 ^ i) (d : is_digit b ≡ true) where
  pub few_more : v * 10 + (b - 48) < 10 ^ (i + 1)
  few_more = digit_behind i v (b - 48) p (omega (arith, digit_high b d))

  pub few_small : i < 19 → v * 10 + (b - 48) < 2 ^ 64
  few_small h = omega (arith, few_more, power_small (i + 1) (omega arith))

pub no_digit : (s : List ℕ) → length s ≡ 0 → None ≡ read_digits s
unfolding digits
no_digit [] h = refl
no_digit (b ∷ s) h = absurd (suc-ne-zero (length s) h)

pub start : (s : List ℕ) → (length s ≡ 0 → ⊥) → digits s ≡ behind 0 s
unfolding digits
start [] h = absurd (h refl)
start (b ∷ s) h = refl

-- the sign
pub plus : (s t : List ℕ) (r : Option ℕ) → pointwise eqb (take 1 s) (43 ∷ []) ≡ true → t ≡ drop 1 s → r ≡ read_digits t → r ≡ read_u64 s
unfolding unsigned
plus [] t r h e f = let w : ◌≡◌ {A = ℕ} 0 1 = cc in absurd (omega arith)
plus (b ∷ s) t r h e f = go (eqb b 43) refl h
  where
    go : (z : Bool) → eqb b 43 ≡ z → z && true ≡ true → r ≡ read_u64 (b ∷ s)
    go true q g = f ∙ rw e (simp q)
    go false q g = let w : ◌≡◌ {A = ℕ} 0 1 = cc in absurd (omega arith)

pub bare : (s : List ℕ) (r : Option ℕ) → pointwise eqb (take 1 s) (43 ∷ []) ≡ false → r ≡ read_digits s → r ≡ read_u64 s
unfolding unsigned digits
bare [] r h f = f
bare (b ∷ s) r h f = go (eqb b 43) refl h
  where
    go : (z : Bool) → eqb b 43 ≡ z → z && true ≡ false → r ≡ read_u64 (b ∷ s)
    go true q g = let w : ◌≡◌ {A = ℕ} 0 1 = cc in absurd (omega arith)
    go false q g = f ∙ simp q

-- what an answer says of the number
below_some : (k n : ℕ) (m : Option ℕ) → below k m ≡ Some n → m ≡ Some n
below_some k n (Some v) e = go (ltb v k) e
  where
    go : (t : Bool) → cond t (Some v) None ≡ Some n → Some v ≡ Some n
    go true f = f
    go false f = absurd (none_some f)
below_some k n None e = e

below_none : (j k : ℕ) (m : Option ℕ) → j ≤ k → below k m ≡ None → below j m ≡ None
below_none j k (Some v) h e = go (ltb v k) refl e
  where
    go : (t : Bool) → ltb v k ≡ t → cond t (Some v) None ≡ None → below j (Some v) ≡ None
    go true f g = absurd (none_some (sym g))
    go false f g = simp (le-ltb v j (omega (arith, ltb-false v k f)))
below_none j k None h e = refl

answer_some : (m : Option ℕ) (n : ℕ) → m ≡ Some n → m ≡ Some n
answer_some (Some v) n e = cc
answer_some None n e = let z : ◌≡◌ {A = ℕ} 0 1 = cc in absurd (omega arith)

answer_none : (m : Option ℕ) → m ≡ None → m ≡ None
answer_none (Some v) e = let z : ◌≡◌ {A = ℕ} 0 1 = cc in absurd (omega arith)
answer_none None e = refl

-- read as a u64, m being the number that the text spells
module _ (m : Option ℕ) (r : Option ℕ) (e : r ≡ below (2 ^ 64) m) where
  pub read_number : (n : ℕ) → r ≡ Some n → m ≡ Some n
  read_number n f = below_some (2 ^ 64) n m (answer_some (below (2 ^ 64) m) n (sym e ∙ f))

  read_nothing : r ≡ None → below (2 ^ 64) m ≡ None
  read_nothing f = answer_none (below (2 ^ 64) m) (sym e ∙ f)

  -- and then as a u32
  pub none32 : r ≡ None → None ≡ below (2 ^ 32) m
  none32 f = simp (below_none (2 ^ 32) (2 ^ 64) m (omega arith) (read_nothing f))

  pub small32 : (n : ℕ) → r ≡ Some n → n < 2 ^ 32 → Some n ≡ below (2 ^ 32) m
  small32 n f h = simp (read_number n f, lt-ltb n (2 ^ 32) h)

  pub large32 : (n : ℕ) → r ≡ Some n → 2 ^ 32 ≤ n → None ≡ below (2 ^ 32) m
  large32 n f h = simp (read_number n f, le-ltb n (2 ^ 32) h)
