-- Laws of the character at the front of a text.
use mathlib.Core.Path.{◌≡◌, refl, sym, ap, ◌∙◌}
use mathlib.Core.List.{List, [], ◌∷◌, ◌++◌, append-nil}
use mathlib.Core.Bool.{Bool, true, false, cond, ◌&&◌, and-false}
use Prim.Native.Nat.{ℕ, ◌≤◌, ◌<◌}
use native.Mathlib.Nat.{le_trans}
use native.Mathlib.Omega.{arith}
use lib.ListN.{length, get_or, get_or-eq_default}
use lib.Dec.{leb}
use borrow.Author.Rules.{rules}
use borrow.Author.Tests.{lt-leb, leb-false, le-leb, ne_eqb}
use Rattle.utf8.proofs.TestLaws.{in_range}
use Rattle.utf8.specs.Utf8.{is_one, is_tail, is_two, is_three, is_four, char_len, piece_len}

cond_le : (t : Bool) (a b n : ℕ) → a ≤ n → b ≤ n → cond t a b ≤ n
cond_le true a b n h k = h
cond_le false a b n h k = k

-- the character at the front is a part of the text
pub char_le : (s : List ℕ) → char_len s ≤ length s
unfolding char_len
char_le [] = search rules
char_le (a ∷ []) = simp and-false (search (cond_le, rules))
char_le (a ∷ b ∷ []) = simp and-false (search (cond_le, rules))
char_le (a ∷ b ∷ c ∷ []) = simp and-false (search (cond_le, rules))
char_le (a ∷ b ∷ c ∷ d ∷ s) = le_trans (search (cond_le, rules) depth 7) four_le
  where
    four_le : 4 ≤ length (a ∷ b ∷ c ∷ d ∷ s)
    four_le = omega arith

-- the first test of the grammar that passes
pub char_none : (s : List ℕ) → length s ≡ 0 → 0 ≡ char_len s
unfolding char_len
char_none [] h = refl
char_none (a ∷ s) h = absurd (omega arith)

pub char_one : (s : List ℕ) → (length s ≡ 0 → ⊥) → get_or s 0 0 < 0x80 → 1 ≡ char_len s
unfolding char_len
char_one [] h l = absurd (h refl)
char_one (a ∷ s) h l = simp (le-leb a 0x7F (omega arith))

wide : (s : List ℕ) → 0x80 ≤ get_or s 0 0
    → char_len s
    ≡ cond (is_two (get_or s 0 0) (get_or s 1 0)) 2
    (cond (is_three (get_or s 0 0) (get_or s 1 0) (get_or s 2 0)) 3 (cond (is_four (get_or s 0 0) (get_or s 1 0) (get_or s 2 0) (get_or s 3 0)) 4 0))
unfolding char_len
wide [] l = absurd (omega arith)
wide (a ∷ s) l = simp (lt-leb a 0x7F (omega arith))

-- a character that is not ASCII has two bytes, three or four
pub wide_cases : {C : Type 0} (s : List ℕ) → 0x80 ≤ get_or s 0 0 → (char_len s ≡ 0 → C) → (char_len s ≡ 2 → C) → (char_len s ≡ 3 → C) → (char_len s ≡ 4 → C) → C
wide_cases {C = C} s l f₀ f₂ f₃ f₄ =
    go (is_two (get_or s 0 0) (get_or s 1 0)) (is_three (get_or s 0 0) (get_or s 1 0) (get_or s 2 0)) (is_four (get_or s 0 0) (get_or s 1 0) (get_or s 2 0) (get_or s 3 0)) (wide s l)
  where
    go : (t₂ t₃ t₄ : Bool) → char_len s ≡ cond t₂ 2 (cond t₃ 3 (cond t₄ 4 0)) → C
    go true t₃ t₄ e = f₂ e
    go false true t₄ e = f₃ e
    go false false true e = f₄ e
    go false false false e = f₀ e

module _ (s : List ℕ) (l : 0x80 ≤ get_or s 0 0) (b : ℕ) (eb : b ≡ get_or s 1 0) (t₂ : Bool) (e₂ : t₂ ≡ is_two (get_or s 0 0) b) where
  pub char_two : t₂ ≡ true → 2 ≡ char_len s
  char_two y = sym (wide s l ∙ simp (← eb, ← e₂, y))

  module _ (n₂ : t₂ ≡ false) (c : ℕ) (ec : c ≡ get_or s 2 0) (t₃ : Bool) (e₃ : t₃ ≡ is_three (get_or s 0 0) b c) where
    pub char_three : t₃ ≡ true → 3 ≡ char_len s
    char_three y = sym (wide s l ∙ simp (← eb, ← e₂, n₂, ← ec, ← e₃, y))

    module _ (n₃ : t₃ ≡ false) (d : ℕ) (ed : d ≡ get_or s 3 0) (t₄ : Bool) (e₄ : t₄ ≡ is_four (get_or s 0 0) b c d) where
      pub char_four : t₄ ≡ true → 4 ≡ char_len s
      char_four y = sym (wide s l ∙ simp (← eb, ← e₂, n₂, ← ec, ← e₃, n₃, ← ed, ← e₄, y))

      pub char_bad : t₄ ≡ false → 0 ≡ char_len s
      char_bad y = sym (wide s l ∙ simp (← eb, ← e₂, n₂, ← ec, ← e₃, n₃, ← ed, ← e₄, y))

-- a text too short for the next test of the grammar, where those before it failed
pub ends_one : (s : List ℕ) → 0x80 ≤ get_or s 0 0 → length s < 2 → 0 ≡ char_len s
unfolding char_len
ends_one [] l h = refl
ends_one (a ∷ []) l h = simp (lt-leb a 0x7F (omega arith), and-false)
ends_one (a ∷ b ∷ s) l h = absurd (omega arith)

module _ (s : List ℕ) (l : 0x80 ≤ get_or s 0 0) (t₂ : Bool) (e₂ : t₂ ≡ is_two (get_or s 0 0) (get_or s 1 0)) (n₂ : t₂ ≡ false) where
  pub ends_two : length s < 3 → 0 ≡ char_len s
  ends_two h =
      let z : get_or s 2 0 ≡ 0 = get_or-eq_default s 0 (omega arith) in
      sym (wide s l ∙ simp (← e₂, n₂, z, and-false))

  pub ends_three : (t₃ : Bool) → t₃ ≡ is_three (get_or s 0 0) (get_or s 1 0) (get_or s 2 0) → t₃ ≡ false → length s < 4 → 0 ≡ char_len s
  ends_three t₃ e₃ n₃ h =
      let z : get_or s 3 0 ≡ 0 = get_or-eq_default s 0 (omega arith) in
      sym (wide s l ∙ simp (← e₂, n₂, ← e₃, n₃, z, and-false))

-- x is no UTF8-tail: the character in front of it ends there
module _ (x : ℕ) (w : List ℕ) where
  low : x < 0x80 → (q : List ℕ) (a : ℕ) → char_len ((a ∷ q) ++ (x ∷ w)) ≡ char_len (a ∷ q)
  unfolding char_len
  low h [] a = simp (lt-leb 0x80 x h, lt-leb 0xA0 x (omega arith), lt-leb 0x90 x (omega arith), and-false)
  low h (b ∷ []) a = simp (lt-leb 0x80 x h, and-false)
  low h (b ∷ c ∷ []) a = simp (lt-leb 0x80 x h, and-false)
  low h (b ∷ c ∷ d ∷ q) a = refl

  high : 0xBF < x → (q : List ℕ) (a : ℕ) → char_len ((a ∷ q) ++ (x ∷ w)) ≡ char_len (a ∷ q)
  unfolding char_len
  high h [] a = simp (lt-leb x 0xBF h, lt-leb x 0x9F (omega arith), lt-leb x 0x8F (omega arith), and-false)
  high h (b ∷ []) a = simp (lt-leb x 0xBF h, and-false)
  high h (b ∷ c ∷ []) a = simp (lt-leb x 0xBF h, and-false)
  high h (b ∷ c ∷ d ∷ q) a = refl

  same : is_tail x ≡ false → (q : List ℕ) (a : ℕ) → char_len ((a ∷ q) ++ (x ∷ w)) ≡ char_len (a ∷ q)
  same t q a = go (leb 0x80 x) refl t
    where
      go : (y : Bool) → leb 0x80 x ≡ y → y && leb x 0xBF ≡ false → char_len ((a ∷ q) ++ (x ∷ w)) ≡ char_len (a ∷ q)
      go true e f = high (leb-false x 0xBF f) q a
      go false e f = low (leb-false 0x80 x e) q a

-- w is empty, or begins with a byte that is no UTF8-tail
abbrev pub Begins : List ℕ → Type 0
Begins [] = Unit {0}
Begins (x ∷ w) = is_tail x ≡ false

-- a character begins with such a byte
pub char_begins : (s : List ℕ) → 0 < char_len s → Begins s
unfolding char_len
char_begins [] h = tt
char_begins (a ∷ s) h = go (is_tail a) refl
  where
    go : (t : Bool) → is_tail a ≡ t → is_tail a ≡ false
    go false e = e
    go true e =
        let r = in_range 0x80 0xBF a e in
        let z : char_len (a ∷ s) ≡ 0 = simp (lt-leb a 0x7F (omega arith), lt-leb 0xC2 a (omega arith), ne_eqb a 0xE0 (λ z. omega arith), lt-leb 0xE1 a (omega arith), ne_eqb a 0xED (λ z. omega arith), lt-leb 0xEE a (omega arith), ne_eqb a 0xF0 (λ z. omega arith), lt-leb 0xF1 a (omega arith), ne_eqb a 0xF4 (λ z. omega arith)) in
        absurd (omega arith)

-- a character is not lengthened by such a text behind it
pub char_ends : (q w : List ℕ) (a : ℕ) → Begins w → char_len ((a ∷ q) ++ w) ≡ char_len (a ∷ q)
char_ends q [] a t = ap char_len (append-nil (a ∷ q))
char_ends q (x ∷ w) a t = same x w t q a

-- the first of four tests that passes; of those above m none did where that one is at most m
unfoldable pub first : Bool → Bool → Bool → Bool → ℕ
first t₁ t₂ t₃ t₄ = cond t₁ 1 (cond t₂ 2 (cond t₃ 3 (cond t₄ 4 0)))

first_below : (m : ℕ) (t₁ t₂ t₃ t₄ : Bool) → first t₁ t₂ t₃ t₄ ≤ m → first t₁ (leb 2 m && t₂) (leb 3 m && t₃) (leb 4 m && t₄) ≡ first t₁ t₂ t₃ t₄
unfolding first
first_below m true t₂ t₃ t₄ h = refl
first_below m false true t₃ t₄ h = simp (le-leb 2 m h)
first_below m false false true t₄ h = simp (le-leb 3 m h, and-false)
first_below m false false false true h = simp (le-leb 4 m h, and-false)
first_below m false false false false h = simp and-false

-- where the text is cut behind its first character, or behind one byte that begins none, that is
-- still the first
pub char_cut : (a : ℕ) (q w : List ℕ) → char_len ((a ∷ q) ++ w) ≤ length (a ∷ q) → char_len (a ∷ q) ≡ char_len ((a ∷ q) ++ w)
unfolding char_len first
char_cut a [] w h = simp and-false (first_below 1 (is_one a) (is_two a (get_or w 0 0)) (is_three a (get_or w 0 0) (get_or w 1 0)) (is_four a (get_or w 0 0) (get_or w 1 0) (get_or w 2 0)) h)
char_cut a (b ∷ []) w h = simp and-false (first_below 2 (is_one a) (is_two a b) (is_three a b (get_or w 0 0)) (is_four a b (get_or w 0 0) (get_or w 1 0)) h)
char_cut a (b ∷ c ∷ []) w h = simp and-false (first_below 3 (is_one a) (is_two a b) (is_three a b c) (is_four a b c (get_or w 0 0)) h)
char_cut a (b ∷ c ∷ d ∷ q) w h = refl

-- one byte at least, and a part of the text
pub piece_pos : (s : List ℕ) → 0 < piece_len s
piece_pos s = omega arith

pub piece_le : (s : List ℕ) → 0 < length s → piece_len s ≤ length s
piece_le s h = omega (arith, char_le s)

-- what the length of a character uses
pub ruleset char_laws = (char_none, char_one, char_two, char_three, char_four, char_bad, ends_one, ends_two, ends_three)
