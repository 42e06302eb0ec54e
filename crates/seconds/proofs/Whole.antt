-- A float is the whole number n exactly where its bits are those of n's float. Assumes nothing.
use Rattle.std.proofs.Common.{◌≡◌, ℕ, ◌+◌, ◌*◌, ◌/◌, ◌^◌, ◌<◌, ◌≤◌, Bool, true, false, cond, not, ◌&&◌, T, ltb, pos, sym, refl, ap, ◌∙◌, subst, div-lt_iff_lt-mul, arith, le→leb, ltb→lt, lt→ltb, leb→le}
use lib.Ieee.{Float, nan, inf, fin, binary64, up, down, lt, is_nan, fits, in_float, in_unsigned, to_unsigned, whole, of_int, to_bits, of_bits}
use lib.Ieee.Fits.{down_pos, and_r, of_int-fits}
use lib.Ieee.Exact.{HasValue}
use lib.Ieee.Back.{round_whole, unsigned_back, Float-back_unsigned}
use lib.Ieee.Bits.{of_bits-to_bits}
use Rattle.std.specs.Prelude.{Some, None}
use Rattle.seconds.specs.Seconds.{whole_number}

valued : (x : Float) (s : Bool) (a c : ℕ) → HasValue x s a c → T (not (is_nan x))
unfolding is_nan
valued nan s a c h = absurd h
valued (inf t) s a c h = tt
valued (fin t m e) s a c h = tt

pub whole_no_nan : (n : ℕ) → n ≤ 2 ^ 53 → T (not (is_nan (of_int binary64 (pos n))))
unfolding of_int
whole_no_nan n h = valued _ false n 1 (round_whole binary64 false n h)

pub exact : (n : ℕ) → n ≤ 2 ^ 53 → T (in_float binary64 (pos n))
unfolding in_float
exact n h = le→leb n (2 ^ 53) h

within : (n : ℕ) → T (in_float binary64 (pos n)) → n ≤ 2 ^ 53
unfolding in_float
within n h = leb→le n (2 ^ 53) h

-- ---- a whole number is above -1 and below 2 ^ 64

pub over : (x : Float) → T (in_unsigned binary64 64 x) → T (lt (fin true 1 (pos 0)) x)
unfolding lt in_unsigned
over nan h = absurd h
over (inf s) h = absurd h
over (fin true m e) h = absurd (and_r (whole binary64 (fin true m e)) (false && ltb (m * up e / down e) (2 ^ 64)) h)
over (fin false m e) h = lt→ltb 0 (1 * 1 * down e + m * up e * 1) (let p : 0 < down e = down_pos e in omega arith)

pub under : (x : Float) → T (in_unsigned binary64 64 x) → T (lt x (fin false 1 (pos 64)))
unfolding lt in_unsigned
under nan h = absurd h
under (inf s) h = absurd h
under (fin true m e) h = absurd (and_r (whole binary64 (fin true m e)) (false && ltb (m * up e / down e) (2 ^ 64)) h)
under (fin false m e) h =
    lt→ltb (m * up e * 1) (1 * 2 ^ 64 * down e)
    (let k : m * up e / down e < 2 ^ 64 = ltb→lt (m * up e / down e) (2 ^ 64) (and_r (whole binary64 (fin false m e)) (true && ltb (m * up e / down e) (2 ^ 64)) h) in
    let j : m * up e < 2 ^ 64 * down e = (div-lt_iff_lt-mul (down_pos e)).0 k in
    omega arith)

-- the same of a test that failed
pub not_over : (x : Float) → lt (fin true 1 (pos 0)) x ≡ false → T (in_unsigned binary64 64 x) → ⊥
not_over x e t = subst T e (over x t)

pub not_under : (x : Float) → lt x (fin false 1 (pos 64)) ≡ false → T (in_unsigned binary64 64 x) → ⊥
not_under x e t = subst T e (under x t)

-- ---- what `whole_number` is, and what an answer tells of it

yes : (b : Bool) (n : ℕ) → T b → cond b (Some n) None ≡ Some n
yes true n t = refl
yes false n t = absurd t

pub no : (b : Bool) (n : ℕ) → (T b → ⊥) → cond b (Some n) None ≡ None
no true n f = absurd (f tt)
no false n f = refl

same : (x y : Float) → T (fits binary64 x) → T (fits binary64 y) → to_bits binary64 x ≡ to_bits binary64 y → x ≡ y
same x y hx hy e = sym (of_bits-to_bits binary64 x hx) ∙ ap (of_bits binary64) e ∙ of_bits-to_bits binary64 y hy

module _ (x : Float) (n : ℕ) (held : T (fits binary64 x)) (cut : n ≡ to_unsigned 64 x) where
  pub found : n ≤ 2 ^ 53 → n < 2 ^ 64 → to_bits binary64 x ≡ to_bits binary64 (of_int binary64 (pos n)) → Some n ≡ whole_number x
  found h k e =
      let is : x ≡ of_int binary64 (pos n) = same x (of_int binary64 (pos n)) held (of_int-fits binary64 (pos n)) e in
      let t : T (in_unsigned binary64 64 x) = subst (λ (y : Float). T (in_unsigned binary64 64 y)) (sym is) (unsigned_back binary64 64 n (exact n h) k).0 in
      ap Some cut ∙ sym (yes (in_unsigned binary64 64 x) (to_unsigned 64 x) t)

  pub other_bits : (to_bits binary64 x ≡ to_bits binary64 (of_int binary64 (pos n)) → ⊥) → None ≡ whole_number x
  other_bits ne =
      sym (no (in_unsigned binary64 64 x) (to_unsigned 64 x)
      (λ (t : T (in_unsigned binary64 64 x)). ne (sym (ap (to_bits binary64) (ap (λ (k : ℕ). of_int binary64 (pos k)) cut ∙ (Float-back_unsigned binary64 64 x held t).1)))))

  pub too_large : 2 ^ 53 < n → None ≡ whole_number x
  too_large h =
      sym (no (in_unsigned binary64 64 x) (to_unsigned 64 x)
      (λ (t : T (in_unsigned binary64 64 x)).
      let k : n ≤ 2 ^ 53 = within n (subst (λ (j : ℕ). T (in_float binary64 (pos j))) (sym cut) (Float-back_unsigned binary64 64 x held t).0) in
      omega arith))
