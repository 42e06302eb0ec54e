-- Laws of the digits behind a number, for every crate that reads digits.
use Rattle.std.specs.Prelude.{Some, None}
use mathlib.Core.Path.{◌≡◌, refl, ◌∙◌}
use mathlib.Core.List.{List, [], ◌∷◌, ◌++◌}
use mathlib.Core.Bool.{Bool, true, false, cond, ◌&&◌}
use Prim.Native.Nat.{ℕ, suc, ◌+◌, ◌-◌, ◌*◌, ◌^◌, ◌≤◌, ◌<◌}
use native.Mathlib.Nat.{zero-add}
use native.Mathlib.Omega.{arith}
use native.Mathlib.Numerals.{add-one}
use lib.ListN.{length, get_or, drop, drop_of_length-le}
use lib.Seq.{drop-cons}
use lib.Dec.{leb, eqb}
use borrow.Author.Tests.{leb-true, eqb-true, le-leb, le-ltb}
use Rattle.decimal.proofs.Power.{digit_behind}
use Rattle.decimal.specs.Decimal.{is_digit, behind, digits, unsigned, below}

-- a missing number is no number
pub none_some : {n : ℕ} → None ≡ Some n → ⊥
none_some e = let z : ◌≡◌ {A = ℕ} 0 1 = cc in absurd (omega arith)

-- a digit is a byte from '0' to '9'
pub digit_low : (b : ℕ) → is_digit b ≡ true → 48 ≤ b
digit_low b e = go (leb 48 b) refl e
  where
    go : (t : Bool) → leb 48 b ≡ t → t && leb b 57 ≡ true → 48 ≤ b
    go true f g = leb-true 48 b f
    go false f g = let w : ◌≡◌ {A = ℕ} 0 1 = cc in absurd (omega arith)

pub digit_high : (b : ℕ) → is_digit b ≡ true → b ≤ 57
digit_high b e = go (leb 48 b) e
  where
    go : (t : Bool) → t && leb b 57 ≡ true → b ≤ 57
    go true g = leb-true b 57 g
    go false g = let w : ◌≡◌ {A = ℕ} 0 1 = cc in absurd (omega arith)

pub is_digit_lem : (d : ℕ) → d < 10 → is_digit (48 + d) ≡ true
is_digit_lem d h = simp (le-leb 48 (48 + d) (omega arith), le-leb (48 + d) 57 (omega arith))

-- the digits behind v, from the place i of a text on: the next byte
pub behind_step : (s : List ℕ) (i v : ℕ) → i < length s
    → behind v (drop i s) ≡ cond (is_digit (get_or s i 0)) (behind (v * 10 + (get_or s i 0 - 48)) (drop (i + 1) s)) None
unfolding behind
behind_step s i v h = rw (add-one, drop-cons s i 0)

-- and no more bytes
pub behind_end : (s : List ℕ) (i v : ℕ) → length s ≤ i → behind v (drop i s) ≡ Some v
unfolding behind
behind_end s i v h = rw (drop_of_length-le s h)

-- the first of the digits behind v, and those behind it
pub behind_cons : (v b n : ℕ) (s : List ℕ) → behind v (b ∷ s) ≡ Some n → (is_digit b ≡ true) × (behind (v * 10 + (b - 48)) s ≡ Some n)
unfolding behind
behind_cons v b n s e = go (is_digit b) refl e
  where
    go : (t : Bool) → is_digit b ≡ t → cond t (behind (v * 10 + (b - 48)) s) None ≡ Some n
        → (is_digit b ≡ true) × (behind (v * 10 + (b - 48)) s ≡ Some n)
    go true f g = (f, g)
    go false f g = absurd (none_some g)

-- more digits make no number smaller
pub too_big : (k v : ℕ) (s : List ℕ) → k ≤ v → below k (behind v s) ≡ None
unfolding behind
too_big k v [] h = simp (le-ltb v k h)
too_big k v (b ∷ s) h = go (is_digit b) (too_big k (v * 10 + (b - 48)) s (omega arith))
  where
    go : (t : Bool) → below k (behind (v * 10 + (b - 48)) s) ≡ None → below k (cond t (behind (v * 10 + (b - 48)) s) None) ≡ None
    go true e = e
    go false e = refl

-- digits behind digits
pub behind_append : (v w : ℕ) (s u : List ℕ) → behind v s ≡ Some w → behind v (s ++ u) ≡ behind w u
unfolding behind
behind_append v w [] u e = let z : v ≡ w = cc in rw z
behind_append v w (b ∷ s) u e =
    let f : (is_digit b ≡ true) × (behind (v * 10 + (b - 48)) s ≡ Some w) = behind_cons v b w s e in
    simp f.0 (behind_append (v * 10 + (b - 48)) w s u f.1)

-- a number's digits bound it
pub behind_bound : (k v n : ℕ) (s : List ℕ) → v < 10 ^ k → behind v s ≡ Some n → n < 10 ^ (k + length s)
unfolding behind
behind_bound k v n [] h e = let z : v ≡ n = cc in let y : k + 0 ≡ k = omega arith in rw (y, ← z) h
behind_bound k v n (b ∷ s) h e =
    let f : (is_digit b ≡ true) × (behind (v * 10 + (b - 48)) s ≡ Some n) = behind_cons v b n s e in
    let l : b - 48 < 10 = omega (arith, digit_high b f.0) in
    let y : k + 1 + length s ≡ k + suc (length s) = omega arith in
    rw (← y) (behind_bound (k + 1) (v * 10 + (b - 48)) n s (digit_behind k v (b - 48) h l) f.1)

pub digits_bound : (n : ℕ) (s : List ℕ) → digits s ≡ Some n → n < 10 ^ length s
unfolding digits
digits_bound n [] e = absurd (none_some e)
digits_bound n (b ∷ s) e = rw zero-add at (behind_bound 0 0 n (b ∷ s) (omega arith) e)

-- one digit alone, and one behind others
pub digits_one : (d : ℕ) → d < 10 → digits ((48 + d) ∷ []) ≡ Some d
unfolding digits behind
digits_one d h = let z : 0 * 10 + (48 + d - 48) ≡ d = omega arith in simp (is_digit_lem d h, z)

pub digits_snoc : (n d : ℕ) (s : List ℕ) → digits s ≡ Some n → d < 10 → digits (s ++ ((48 + d) ∷ [])) ≡ Some (n * 10 + d)
unfolding digits behind
digits_snoc n d [] e h = absurd (none_some e)
digits_snoc n d (b ∷ s) e h =
    let z : n * 10 + (48 + d - 48) ≡ n * 10 + d = omega arith in
    behind_append 0 n (b ∷ s) ((48 + d) ∷ []) e ∙ simp (is_digit_lem d h, z)

-- digits are a number with no '+' in front
pub unsigned_digits : (n : ℕ) (s : List ℕ) → digits s ≡ Some n → unsigned s ≡ Some n
unfolding digits unsigned
unsigned_digits n [] e = e
unsigned_digits n (b ∷ s) e = go (eqb b 43) refl
  where
    go : (t : Bool) → eqb b 43 ≡ t → cond t (digits s) (behind 0 (b ∷ s)) ≡ Some n
    go true f = absurd (omega (arith, digit_low b (behind_cons 0 b n s e).0, eqb-true b 43 f))
    go false f = e
