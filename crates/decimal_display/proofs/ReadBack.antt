-- What is printed reads back, and what is read prints again.
use Rattle.std.specs.Prelude.{Some}
use mathlib.Core.Path.{◌≡◌, refl, sym, ap, ◌∙◌}
use mathlib.Core.Bool.{Bool, true, false}
use mathlib.Core.List.{List, [], ◌∷◌, ◌++◌, append-nil}
use Prim.Native.Nat.{ℕ, zero, suc, ◌+◌, ◌-◌, ◌*◌, ◌/◌, ◌%◌, ◌^◌, ◌≤◌, ◌<◌}
use native.Mathlib.Omega.{arith}
use lib.ListN.{get_or, get_or-append}
use lib.Seq.{append_snoc}
use lib.Dec.{ltb}
use borrow.Author.Tests.{ltb-true, ltb-false, lt-ltb}
use Rattle.decimal.specs.Decimal.{is_digit, behind, digits, unsigned, below, read_u32, read_u64}
use Rattle.decimal_display.specs.Printed.{decimal}
use Rattle.decimal.proofs.Laws.{none_some, digit_low, digit_high, behind_cons, digits_one, digits_snoc, unsigned_digits}
use Rattle.decimal_display.proofs.Printed.{decimal_short, decimal_long, length_pos}

-- a fact of all numbers, by their last digit: it holds of one digit, and behind a number of which it holds
by_digits : (P : ℕ → Type 0) → ((n : ℕ) → n < 10 → P n) → ((n : ℕ) → 10 ≤ n → P (n / 10) → P n) → (n : ℕ) → P n
by_digits P one more n = up_to (suc n) n (omega arith)
  where
    up_to : (k m : ℕ) → m < k → P m
    up_to zero m h = absurd (omega arith)
    up_to (suc k) m h = go (ltb m 10) refl (up_to k (m / 10))
      where
        go : (t : Bool) → ltb m 10 ≡ t → (m / 10 < k → P (m / 10)) → P m
        go true e ih = one m (ltb-true m 10 e)
        go false e ih = more m (ltb-false m 10 e) (ih (omega (arith, ltb-false m 10 e)))

-- the digits of n make n
pub digits_decimal : (n : ℕ) → digits (decimal n) ≡ Some n
digits_decimal = by_digits (λ n. digits (decimal n) ≡ Some n) one more
  where
    one : (n : ℕ) → n < 10 → digits (decimal n) ≡ Some n
    one n h = rw (decimal_short n h) (digits_one n h)

    more : (n : ℕ) → 10 ≤ n → digits (decimal (n / 10)) ≡ Some (n / 10) → digits (decimal n) ≡ Some n
    more n h e =
        let z : n / 10 * 10 + n % 10 ≡ n = omega arith in
        rw (decimal_long n h) (digits_snoc (n / 10) (n % 10) (decimal (n / 10)) e (omega arith) ∙ ap Some z)

-- read again at any width that holds n
back : (k n : ℕ) → n < k → below k (unsigned (decimal n)) ≡ Some n
back k n h = simp (unsigned_digits n (decimal n) (digits_decimal n), lt-ltb n k h)

pub read_back_u64 : (n : ℕ) → n < 2 ^ 64 → read_u64 (decimal n) ≡ Some n
read_back_u64 n h = simp (back (2 ^ 64) n h)

pub read_back_u32 : (n : ℕ) → n < 2 ^ 32 → read_u32 (decimal n) ≡ Some n
read_back_u32 n h = simp (back (2 ^ 32) n h)

-- no leading zero: the first digit of a number above 0 is above '0'
pub no_leading_zero : (n : ℕ) → 1 ≤ n → 48 < get_or (decimal n) 0 0
no_leading_zero = by_digits (λ n. 1 ≤ n → 48 < get_or (decimal n) 0 0) one more
  where
    one : (n : ℕ) → n < 10 → 1 ≤ n → 48 < get_or (decimal n) 0 0
    one n h l = rw (decimal_short n h) (omega arith)

    more : (n : ℕ) → 10 ≤ n → (1 ≤ n / 10 → 48 < get_or (decimal (n / 10)) 0 0) → 1 ≤ n → 48 < get_or (decimal n) 0 0
    more n h ih l = rw (decimal_long n h, get_or-append (decimal (n / 10)) _ 0 0 (length_pos (n / 10))) (ih (omega arith))

-- the other way: digits that begin with no '0' are what their number prints as
behind_printed : (u v : ℕ) (s : List ℕ) → 1 ≤ u → behind u s ≡ Some v → decimal u ++ s ≡ decimal v
unfolding behind
behind_printed u v [] h e = let z : u ≡ v = cc in rw z (append-nil (decimal v))
behind_printed u v (b ∷ s) h e =
    let f : (is_digit b ≡ true) × (behind (u * 10 + (b - 48)) s ≡ Some v) = behind_cons u b v s e in
    let l : (48 ≤ b) × (b ≤ 57) = (digit_low b f.0, digit_high b f.0) in
    let tens : (u * 10 + (b - 48)) / 10 ≡ u = omega arith in
    let ones : 48 + (u * 10 + (b - 48)) % 10 ≡ b = omega arith in
    let more : decimal (u * 10 + (b - 48)) ≡ decimal u ++ (b ∷ []) = decimal_long (u * 10 + (b - 48)) (omega arith) ∙ rw (tens, ones) in
    sym (append_snoc (decimal u) b s) ∙ rw (← more) (behind_printed (u * 10 + (b - 48)) v s (omega arith) f.1)

pub digits_printed : (v : ℕ) (s : List ℕ) → digits s ≡ Some v → (get_or s 0 0 ≡ 48 → ⊥) → s ≡ decimal v
unfolding digits
digits_printed v [] e n = absurd (none_some e)
digits_printed v (b ∷ s) e n =
    let f : (is_digit b ≡ true) × (behind (0 * 10 + (b - 48)) s ≡ Some v) = behind_cons 0 b v s e in
    let l : (48 ≤ b) × (b ≤ 57) = (digit_low b f.0, digit_high b f.0) in
    let one : 48 + (0 * 10 + (b - 48)) ≡ b = omega arith in
    let first : decimal (0 * 10 + (b - 48)) ≡ b ∷ [] = decimal_short (0 * 10 + (b - 48)) (omega arith) ∙ rw one in
    rw first at (behind_printed (0 * 10 + (b - 48)) v s (omega (arith, n)) f.1)
