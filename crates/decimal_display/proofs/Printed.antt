-- Laws of the decimal digits of a number.
use mathlib.Core.Path.{◌≡◌, refl, sym, ap, ◌∙◌}
use mathlib.Core.List.{List, [], ◌∷◌, ◌++◌, append_assoc, append-nil}
use mathlib.Core.Bool.{Bool, true, false, cond}
use Prim.Native.Nat.{ℕ, zero, suc, ◌+◌, ◌-◌, ◌*◌, ◌/◌, ◌%◌, ◌^◌, ◌≤◌, ◌<◌}
use native.Mathlib.Nat.{le_refl, pow-suc, pow-succ', one-le-pow, div-div-eq-div-mul}
use native.Mathlib.Numerals.{add-one}
use native.Mathlib.Omega.{arith}
use lib.ListN.{length, drop, set, length-append}
use mir.Syntax.{w64}
use mir.Val.{Fits}
use lib.Seq.{drop-length, append_snoc}
use Rattle.std.proofs.lemmas.List.{drop-set}
use lib.Dec.{ltb}
use borrow.Author.Tests.{lt-ltb, le-ltb, ltb-false, ltb-true}
use Rattle.decimal_display.specs.Printed.{decimals, decimal, last_digits, difference}
use Rattle.output.specs.Writing.{Writes}
use Rattle.output.specs.declared.Writer.{Writer}
use Rattle.output.proofs.Writing.{then}

-- any number of digits above n does the same
enough : (k m n : ℕ) → n < k → n < m → decimals k n ≡ decimals m n
unfolding decimals
enough zero m n h l = absurd (omega arith)
enough (suc k) zero n h l = absurd (omega arith)
enough (suc k) (suc m) n h l = go (ltb n 10) refl (enough k m (n / 10))
  where
    go : (t : Bool) → ltb n 10 ≡ t → (n / 10 < k → n / 10 < m → decimals k (n / 10) ≡ decimals m (n / 10))
        → cond t ((48 + n) ∷ []) (decimals k (n / 10) ++ ((48 + n % 10) ∷ [])) ≡ cond t ((48 + n) ∷ []) (decimals m (n / 10) ++ ((48 + n % 10) ∷ []))
    go true e ih = refl
    go false e ih = rw (ih (omega (arith, ltb-false n 10 e)) (omega (arith, ltb-false n 10 e)))

-- a number of one digit, and of more
pub decimal_short : (n : ℕ) → n < 10 → decimal n ≡ (48 + n) ∷ []
unfolding decimal decimals
decimal_short n h = simp (lt-ltb n 10 h)

pub decimal_long : (n : ℕ) → 10 ≤ n → decimal n ≡ decimal (n / 10) ++ ((48 + n % 10) ∷ [])
unfolding decimal decimals
decimal_long n h = simp (le-ltb n 10 h) (ap (λ (l : List ℕ). l ++ ((48 + n % 10) ∷ [])) (enough n (suc (n / 10)) (n / 10) (omega arith) (omega arith)))

length_long : (n : ℕ) → 10 ≤ n → length (decimal n) ≡ length (decimal (n / 10)) + 1
length_long n h = simp (decimal_long n h, length-append)

pub length_pos : (n : ℕ) → 1 ≤ length (decimal n)
length_pos n = go (ltb n 10) refl
  where
    go : (t : Bool) → ltb n 10 ≡ t → 1 ≤ length (decimal n)
    go true e = rw (decimal_short n (ltb-true n 10 e)) (le_refl 1)
    go false e = omega (arith, length_long n (ltb-false n 10 e))

-- below 10 ^ k a number has at most k digits, and from there on more
pub digits_most : (k n : ℕ) → n < 10 ^ suc k → length (decimal n) ≤ suc k
digits_most zero n h = rw (decimal_short n h) (le_refl 1)
digits_most (suc k) n h = go (ltb n 10) refl (digits_most k (n / 10))
  where
    go : (t : Bool) → ltb n 10 ≡ t → (n / 10 < 10 ^ suc k → length (decimal (n / 10)) ≤ suc k) → length (decimal n) ≤ suc (suc k)
    go true e ih = rw (decimal_short n (ltb-true n 10 e)) (omega arith)
    go false e ih = omega (arith, length_long n (ltb-false n 10 e), ih (omega (arith, pow-suc 10 (suc k))))

pub digits_least : (k n : ℕ) → 10 ^ k ≤ n → k < length (decimal n)
digits_least zero n h = length_pos n
digits_least (suc k) n h = omega (arith, length_long n l, digits_least k (n / 10) (omega (arith, pow-suc 10 k)))
  where
    l : 10 ≤ n
    l = omega (arith, pow-suc 10 k, one-le-pow k 10 (omega arith))

-- the length by the logarithm
pub length_log : (k n : ℕ) → 10 ^ k ≤ n → n < 10 * 10 ^ k → k + 1 ≡ length (decimal n)
length_log k n h l = omega (arith, digits_least k n h, digits_most k n (omega (arith, l, pow-suc 10 k)))

pub length_zero : (n : ℕ) → n ≡ 0 → 1 ≡ length (decimal n)
length_zero n h = rw (decimal_short n (omega (arith, h))) refl

-- a number's last k digits are the number itself, if it has no more, and else stand behind the digits in front of them
pub all_digits : (k n : ℕ) → length (decimal n) ≡ k → last_digits k n ≡ decimal n
unfolding last_digits
all_digits zero n e = absurd (omega (arith, length_pos n))
all_digits (suc k) n e = go (ltb n 10) refl (all_digits k (n / 10))
  where
    go : (t : Bool) → ltb n 10 ≡ t → (length (decimal (n / 10)) ≡ k → last_digits k (n / 10) ≡ decimal (n / 10)) → last_digits k (n / 10) ++ ((48 + n % 10) ∷ []) ≡ decimal n
    go true f ih =
        let short : decimal n ≡ (48 + n) ∷ [] = decimal_short n (ltb-true n 10 f) in
        let none : k ≡ 0 = omega (arith, ap length short) in
        let same : n % 10 ≡ n = omega (arith, ltb-true n 10 f) in
        rw (none, short, same)
    go false f ih =
        let long : 10 ≤ n = ltb-false n 10 f in
        rw (decimal_long n long, ih (omega (arith, length_long n long)))

pub digits_behind : (k n : ℕ) → 10 ^ k ≤ n → decimal n ≡ decimal (n / 10 ^ k) ++ last_digits k n
unfolding last_digits
digits_behind zero n h = let z : n / 10 ^ 0 ≡ n = omega arith in rw z (sym (append-nil (decimal n)))
digits_behind (suc k) n h =
    let z : n / 10 / 10 ^ k ≡ n / 10 ^ suc k = div-div-eq-div-mul n 10 (10 ^ k) ∙ rw (pow-succ' 10 k) in
    decimal_long n (omega (arith, pow-suc 10 k, one-le-pow k 10 (omega arith)))
    ∙ rw (digits_behind k (n / 10) (omega (arith, pow-suc 10 k)), z)
    (append_assoc (decimal (n / 10 ^ suc k)) (last_digits k (n / 10)) ((48 + n % 10) ∷ []))

-- the loop over the last digits: those behind the place i stand there, and y is what is left of the number
module _ (k n : ℕ) (out : List ℕ) (i y : ℕ) where
  pub digit_put : i < length out → last_digits k n ≡ last_digits (i + 1) y ++ drop (i + 1) out
      → last_digits k n ≡ last_digits i (y / 10) ++ drop i (set out i (48 + y % 10))
  unfolding last_digits
  digit_put h e =
      e ∙ rw (drop-set out i (48 + y % 10) h, add-one) (append_snoc (last_digits i (y / 10)) (48 + y % 10) (drop (suc i) out))

pub none_yet : (k n : ℕ) (out : List ℕ) → length out ≡ k → last_digits k n ≡ last_digits k n ++ drop k out
none_yet k n out e = rw (← e, drop-length out) (sym (append-nil (last_digits (length out) n)))

-- a number's text written as its last digits, and as the digits in front of the last k and those k
module _ (k n : ℕ) where
  pub whole_written : length (decimal n) ≡ k → (t : List ℕ) (w₀ w₁ : Writer) → t ≡ last_digits k n → Writes t w₀ w₁ → Writes (decimal n) w₀ w₁
  whole_written h t w₀ w₁ e w = rw (← all_digits k n h, ← e) w

  pub behind_written : 10 ^ k ≤ n → (t : List ℕ) (w₀ w₁ w₂ : Writer) → Writes (decimal (n / 10 ^ k)) w₀ w₁ → t ≡ last_digits k n → Writes t w₁ w₂ → Writes (decimal n) w₀ w₂
  behind_written h t w₀ w₁ w₂ v e w = rw (digits_behind k n h, ← e) (then v w)

-- as many digits as n has
pub size : (k n : ℕ) → 10 ^ k ≤ n → n < 10 ^ suc k → length (decimal n) ≡ suc k
size k n h l = omega (arith, digits_least k n h, digits_most k n l)

-- the size of a difference, and a difference as a text
pub negative_length : (a b len : ℕ) → a < b → len ≡ length (decimal (b - a)) → 1 + len ≡ length (difference a b)
unfolding difference
negative_length a b len h e = simp (lt-ltb a b h) (omega arith)

pub positive_length : (a b len : ℕ) → b ≤ a → len ≡ length (decimal (a - b)) → len ≡ length (difference a b)
unfolding difference
positive_length a b len h e = simp (le-ltb a b h) e

-- of numbers of 64 bits it has at most 20 digits and a sign
pub difference_le : (a b : ℕ) → a < 2 ^ 64 → b < 2 ^ 64 → length (difference a b) ≤ 21
difference_le a b h i = go (ltb a b) refl
  where
    go : (t : Bool) → ltb a b ≡ t → length (difference a b) ≤ 21
    go true e = omega (arith, negative_length a b _ (ltb-true a b e) refl, digits_most 19 (b - a) (omega arith))
    go false e = omega (arith, positive_length a b _ (ltb-false a b e) refl, digits_most 19 (a - b) (omega arith))

pub negative_written : (a b : ℕ) (w₀ w₁ w₂ : Writer) → a < b → Writes (45 ∷ []) w₀ w₁ → Writes (decimal (b - a)) w₁ w₂ → Writes (difference a b) w₀ w₂
unfolding difference
negative_written a b w₀ w₁ w₂ h v w = simp (lt-ltb a b h) (then v w)

pub positive_written : (a b : ℕ) (w₀ w₁ : Writer) → b ≤ a → Writes (decimal (a - b)) w₀ w₁ → Writes (difference a b) w₀ w₁
unfolding difference
positive_written a b w₀ w₁ h w = simp (le-ltb a b h) w
