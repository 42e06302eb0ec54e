-- UTF-8 text is the encodings of scalar values: both directions.
use mathlib.Core.Path.{◌≡◌, refl, sym, ap, ◌∙◌}
use mathlib.Core.List.{List, [], ◌∷◌, ◌++◌, map, flatten, append-nil}
use mathlib.Core.Bool.{Bool, true, false, ◌&&◌, ◌||◌, and-false, or-true}
use mathlib.Core.Logic.{◌⊎◌, inl, inr, ⊎_elim}
use Prim.Native.Nat.{ℕ, ◌+◌, ◌*◌, ◌/◌, ◌%◌, ◌≤◌, ◌<◌}
use native.Mathlib.Omega.{arith}
use lib.Dec.{leb, eqb}
use lib.ListN.{length, get_or, drop}
use borrow.Author.Tests.{le-leb, lt-leb, lt-ltb, ne_eqb, eq-eqb, eqb-true, leb-true, ltb-true}
use Rattle.utf8.specs.Utf8.{within, is_one, is_tail, is_two, is_three, is_four, char_len, piece_len, chars_from, chars, is_char, all, readable, is_scalar, encode, code_point, encode_all, decode}
use Rattle.utf8.proofs.TestLaws.{both, either, in_range, upto}
use Rattle.utf8.proofs.ListLaws.{all_map}
use Rattle.utf8.proofs.CharLaws.{first}
use Rattle.utf8.proofs.CharsLaws.{First, chars_first, flatten_chars, chars_front}

low_scalar : (u : ℕ) → u ≤ 0xD7FF → is_scalar u ≡ true
low_scalar u h = simp (le-leb 0 u (omega arith), le-leb u 0xD7FF h)

high_scalar : (u : ℕ) → 0xE000 ≤ u → u ≤ 0x10FFFF → is_scalar u ≡ true
high_scalar u h l = simp (le-leb 0xE000 u h, le-leb u 0x10FFFF l, or-true)

-- a character is the encoding of its code point, which is a scalar value
abbrev pub Decodes : List ℕ → Type 0
Decodes p = (encode (code_point p) ≡ p) × (is_scalar (code_point p) ≡ true)

one : (a : ℕ) → a ≤ 0x7F → Decodes (a ∷ [])
unfolding encode code_point
one a h = (simp (le-leb a 0x7F h), low_scalar a (omega arith))

two : (a b : ℕ) → is_two a b ≡ true → Decodes (a ∷ b ∷ [])
unfolding encode code_point
two a b h =
    let h₁ = both (within 0xC2 0xDF a) (is_tail b) h in
    let ra = in_range 0xC2 0xDF a h₁.0 in
    let rb = in_range 0x80 0xBF b h₁.1 in
    let u = a % 32 * 64 + b % 64 in
    let ea : 0xC0 + u / 64 ≡ a = omega arith in
    let eb : 0x80 + u % 64 ≡ b = omega arith in
    (simp (lt-leb u 0x7F (omega arith), le-leb u 0x7FF (omega arith), ea, eb), low_scalar u (omega arith))

-- one alternative of UTF8-3, or of UTF8-4 in front of its last byte: what it says of the second
-- byte and the tail behind it
record Alternative (p : Bool) (lo hi b c : ℕ) : Type 0 where
  first : p ≡ true
  second : (lo ≤ b) × (b ≤ hi)
  tail : (0x80 ≤ c) × (c ≤ 0xBF)

alternative : (p : Bool) (lo hi b c : ℕ) → p && within lo hi b && is_tail c ≡ true → Alternative p lo hi b c
alternative p lo hi b c e =
    let h = both (p && within lo hi b) (is_tail c) e in
    let g = both p (within lo hi b) h.0 in
    record { first = g.0; second = in_range lo hi b g.1; tail = in_range 0x80 0xBF c h.1 }

module _ (a b c : ℕ) where
  unfoldable u₃ : ℕ
  u₃ = (a % 16 * 64 + b % 64) * 64 + c % 64

  three_encodes : (0xE0 ≤ a) × (a ≤ 0xEF) × (0x80 ≤ b) × (b ≤ 0xBF) × (0x80 ≤ c) × (c ≤ 0xBF) × (0x800 ≤ u₃) → encode u₃ ≡ a ∷ b ∷ c ∷ []
  unfolding encode u₃
  three_encodes r =
      let ea : 0xE0 + u₃ / 4096 ≡ a = omega arith in
      let eb : 0x80 + u₃ / 64 % 64 ≡ b = omega arith in
      let ec : 0x80 + u₃ % 64 ≡ c = omega arith in
      simp (lt-leb u₃ 0x7F (omega arith), lt-leb u₃ 0x7FF (omega arith), le-leb u₃ 0xFFFF (omega arith), ea, eb, ec)

  three : is_three a b c ≡ true → Decodes (a ∷ b ∷ c ∷ [])
  unfolding code_point u₃
  three h = ⊎_elim (λ x. ⊎_elim (λ y. ⊎_elim f₁ f₂ (either p₁ p₂ y)) f₃ (either (p₁ || p₂) p₃ x)) f₄ (either (p₁ || p₂ || p₃) p₄ h)
    where
      p₁ : Bool
      p₁ = eqb a 0xE0 && within 0xA0 0xBF b && is_tail c

      p₂ : Bool
      p₂ = within 0xE1 0xEC a && is_tail b && is_tail c

      p₃ : Bool
      p₃ = eqb a 0xED && within 0x80 0x9F b && is_tail c

      p₄ : Bool
      p₄ = within 0xEE 0xEF a && is_tail b && is_tail c

      f₁ : p₁ ≡ true → Decodes (a ∷ b ∷ c ∷ [])
      f₁ e =
          let r : Alternative (eqb a 0xE0) 0xA0 0xBF b c = alternative (eqb a 0xE0) 0xA0 0xBF b c e in
          let q : a ≡ 0xE0 = eqb-true a 0xE0 r.first in
          (three_encodes (omega arith), low_scalar u₃ (omega arith))

      f₂ : p₂ ≡ true → Decodes (a ∷ b ∷ c ∷ [])
      f₂ e =
          let r : Alternative (within 0xE1 0xEC a) 0x80 0xBF b c = alternative (within 0xE1 0xEC a) 0x80 0xBF b c e in
          let q = in_range 0xE1 0xEC a r.first in
          (three_encodes (omega arith), low_scalar u₃ (omega arith))

      f₃ : p₃ ≡ true → Decodes (a ∷ b ∷ c ∷ [])
      f₃ e =
          let r : Alternative (eqb a 0xED) 0x80 0x9F b c = alternative (eqb a 0xED) 0x80 0x9F b c e in
          let q : a ≡ 0xED = eqb-true a 0xED r.first in
          (three_encodes (omega arith), low_scalar u₃ (omega arith))

      f₄ : p₄ ≡ true → Decodes (a ∷ b ∷ c ∷ [])
      f₄ e =
          let r : Alternative (within 0xEE 0xEF a) 0x80 0xBF b c = alternative (within 0xEE 0xEF a) 0x80 0xBF b c e in
          let q = in_range 0xEE 0xEF a r.first in
          (three_encodes (omega arith), high_scalar u₃ (omega arith) (omega arith))

module _ (a b c d : ℕ) where
  unfoldable u₄ : ℕ
  u₄ = ((a % 8 * 64 + b % 64) * 64 + c % 64) * 64 + d % 64

  four_encodes : (0xF0 ≤ a) × (a ≤ 0xF4) × (0x80 ≤ b) × (b ≤ 0xBF) × (0x80 ≤ c) × (c ≤ 0xBF) × (0x80 ≤ d) × (d ≤ 0xBF) × (0x10000 ≤ u₄) × (u₄ ≤ 0x10FFFF) → Decodes (a ∷ b ∷ c ∷ d ∷ [])
  unfolding encode code_point u₄
  four_encodes r =
      let ea : 0xF0 + u₄ / 262144 ≡ a = omega arith in
      let eb : 0x80 + u₄ / 4096 % 64 ≡ b = omega arith in
      let ec : 0x80 + u₄ / 64 % 64 ≡ c = omega arith in
      let ed : 0x80 + u₄ % 64 ≡ d = omega arith in
      (simp (lt-leb u₄ 0x7F (omega arith), lt-leb u₄ 0x7FF (omega arith), lt-leb u₄ 0xFFFF (omega arith), ea, eb, ec, ed), high_scalar u₄ (omega arith) (omega arith))

  four : is_four a b c d ≡ true → Decodes (a ∷ b ∷ c ∷ d ∷ [])
  unfolding u₄
  four h = ⊎_elim (λ x. ⊎_elim f₁ f₂ (either p₁ p₂ x)) f₃ (either (p₁ || p₂) p₃ h)
    where
      p₁ : Bool
      p₁ = eqb a 0xF0 && within 0x90 0xBF b && is_tail c && is_tail d

      p₂ : Bool
      p₂ = within 0xF1 0xF3 a && is_tail b && is_tail c && is_tail d

      p₃ : Bool
      p₃ = eqb a 0xF4 && within 0x80 0x8F b && is_tail c && is_tail d

      f₁ : p₁ ≡ true → Decodes (a ∷ b ∷ c ∷ d ∷ [])
      f₁ e =
          let h = both (eqb a 0xF0 && within 0x90 0xBF b && is_tail c) (is_tail d) e in
          let r : Alternative (eqb a 0xF0) 0x90 0xBF b c = alternative (eqb a 0xF0) 0x90 0xBF b c h.0 in
          let q : a ≡ 0xF0 = eqb-true a 0xF0 r.first in
          let z = in_range 0x80 0xBF d h.1 in
          four_encodes (omega arith)

      f₂ : p₂ ≡ true → Decodes (a ∷ b ∷ c ∷ d ∷ [])
      f₂ e =
          let h = both (within 0xF1 0xF3 a && is_tail b && is_tail c) (is_tail d) e in
          let r : Alternative (within 0xF1 0xF3 a) 0x80 0xBF b c = alternative (within 0xF1 0xF3 a) 0x80 0xBF b c h.0 in
          let q = in_range 0xF1 0xF3 a r.first in
          let z = in_range 0x80 0xBF d h.1 in
          four_encodes (omega arith)

      f₃ : p₃ ≡ true → Decodes (a ∷ b ∷ c ∷ d ∷ [])
      f₃ e =
          let h = both (eqb a 0xF4 && within 0x80 0x8F b && is_tail c) (is_tail d) e in
          let r : Alternative (eqb a 0xF4) 0x80 0x8F b c = alternative (eqb a 0xF4) 0x80 0x8F b c h.0 in
          let q : a ≡ 0xF4 = eqb-true a 0xF4 r.first in
          let z = in_range 0x80 0xBF d h.1 in
          four_encodes (omega arith)

-- the test that picked a length passed
picked : (t₁ t₂ t₃ t₄ : Bool) (k : ℕ) → first t₁ t₂ t₃ t₄ ≡ k
    → (k ≡ 1 → t₁ ≡ true) × (k ≡ 2 → t₂ ≡ true) × (k ≡ 3 → t₃ ≡ true) × (k ≡ 4 → t₄ ≡ true) × (k ≤ 4)
unfolding first
picked true t₂ t₃ t₄ k e = (λ z. refl, λ z. absurd (omega arith), λ z. absurd (omega arith), λ z. absurd (omega arith), omega arith)
picked false true t₃ t₄ k e = (λ z. absurd (omega arith), λ z. refl, λ z. absurd (omega arith), λ z. absurd (omega arith), omega arith)
picked false false true t₄ k e = (λ z. absurd (omega arith), λ z. absurd (omega arith), λ z. refl, λ z. absurd (omega arith), omega arith)
picked false false false true k e = (λ z. absurd (omega arith), λ z. absurd (omega arith), λ z. absurd (omega arith), λ z. refl, omega arith)
picked false false false false k e = (λ z. absurd (omega arith), λ z. absurd (omega arith), λ z. absurd (omega arith), λ z. absurd (omega arith), omega arith)

pub char_decodes : (p : List ℕ) → 0 < char_len p → length p ≡ char_len p → Decodes p
unfolding char_len first
char_decodes [] h e = absurd (omega arith)
char_decodes (a ∷ []) h e = one a (leb-true a 0x7F ((picked (is_one a) (is_two a 0) (is_three a 0 0) (is_four a 0 0 0) 1 (sym e)).0 refl))
char_decodes (a ∷ b ∷ []) h e = two a b ((picked (is_one a) (is_two a b) (is_three a b 0) (is_four a b 0 0) 2 (sym e)).1 refl)
char_decodes (a ∷ b ∷ c ∷ []) h e = three a b c ((picked (is_one a) (is_two a b) (is_three a b c) (is_four a b c 0) 3 (sym e)).2 refl)
char_decodes (a ∷ b ∷ c ∷ d ∷ []) h e = four a b c d ((picked (is_one a) (is_two a b) (is_three a b c) (is_four a b c d) 4 (sym e)).3 refl)
char_decodes (a ∷ b ∷ c ∷ d ∷ x ∷ s) h e =
    absurd (omega (arith, (picked (is_one a) (is_two a b) (is_three a b c) (is_four a b c d) (length (a ∷ b ∷ c ∷ d ∷ x ∷ s)) (sym e)).4))

-- readable text is the encodings of its code points, which are scalar values
pub readable_decode : (s : List ℕ) → readable s ≡ true → (encode_all (decode s) ≡ s) × (all is_scalar (decode s) ≡ true)
unfolding flatten all
readable_decode s h = let r = go (chars s) s refl h in (r.0 ∙ flatten_chars s, r.1)
  where
    go : (l : List (List ℕ)) (s : List ℕ) → chars s ≡ l → all is_char l ≡ true
        → (flatten (map encode (map code_point l)) ≡ flatten l) × (all is_scalar (map code_point l) ≡ true)
    go [] s e h = (refl, refl)
    go (p ∷ l) s e h =
        let f : First s p l = chars_first s p l e in
        let b = both (is_char p) (all is_char l) h in
        let n : 0 < char_len p = ltb-true 0 (char_len p) b.0 in
        let d : Decodes p = char_decodes p n (omega (arith, f.is_char_lem, f.size)) in
        let r = go l (drop (piece_len s) s) f.rest b.1 in
        (cc (d.0, r.0), simp (d.1, r.1))

-- the encoding of c is a character, whatever stands behind it, and c its code point
pub record Encodes (c : ℕ) : Type 0 where
  pub char : (w : List ℕ) → char_len (encode c ++ w) ≡ length (encode c)
  pub some_byte : 0 < length (encode c)
  pub back : code_point (encode c) ≡ c

encodes : (c a : ℕ) (p : List ℕ) → encode c ≡ a ∷ p → ((w : List ℕ) → char_len ((a ∷ p) ++ w) ≡ length (a ∷ p)) → code_point (a ∷ p) ≡ c → Encodes c
encodes c a p e f b = record { char = λ w. rw e (f w); some_byte = rw e (omega arith); back = rw e b }

encode_one : (c : ℕ) → c ≤ 0x7F → Encodes c
unfolding encode char_len code_point
encode_one c h = encodes c c [] (simp (le-leb c 0x7F h)) (λ w. simp (le-leb c 0x7F h)) refl

encode_two : (c : ℕ) → 0x80 ≤ c → c ≤ 0x7FF → Encodes c
unfolding encode char_len code_point
encode_two c h l =
    let a = 0xC0 + c / 64 in
    let b = 0x80 + c % 64 in
    encodes c a (b ∷ [])
    (simp (lt-leb c 0x7F h, le-leb c 0x7FF l))
    (λ w. simp (lt-leb a 0x7F (omega arith), le-leb 0xC2 a (omega arith), le-leb a 0xDF (omega arith), le-leb 0x80 b (omega arith), le-leb b 0xBF (omega arith)))
    (omega arith)

pick_three : (t₁ t₂ t₃ t₄ : Bool) → t₁ ≡ false → t₂ ≡ false → t₃ ≡ true → first t₁ t₂ t₃ t₄ ≡ 3
unfolding first
pick_three t₁ t₂ t₃ t₄ e₁ e₂ e₃ = simp (e₁, e₂, e₃)

pick_four : (t₁ t₂ t₃ t₄ : Bool) → t₁ ≡ false → t₂ ≡ false → t₃ ≡ false → t₄ ≡ true → first t₁ t₂ t₃ t₄ ≡ 4
unfolding first
pick_four t₁ t₂ t₃ t₄ e₁ e₂ e₃ e₄ = simp (e₁, e₂, e₃, e₄)

low_tail : (n : ℕ) → leb 0x80 (0x80 + n % 64) ≡ true
low_tail n = le-leb 0x80 (0x80 + n % 64) (omega arith)

high_tail : (n : ℕ) → leb (0x80 + n % 64) 0xBF ≡ true
high_tail n = le-leb (0x80 + n % 64) 0xBF (omega arith)

tail_bits : (n : ℕ) → (0x80 + n % 64) % 64 ≡ n % 64
tail_bits n = omega arith

ruleset tails = (low_tail, high_tail)

module _ (c : ℕ) (h : 0x800 ≤ c) (l : c ≤ 0xFFFF) (s : (c ≤ 0xD7FF) ⊎ (0xE000 ≤ c)) where
  abbrev a₃ : ℕ
  a₃ = 0xE0 + c / 4096

  abbrev b₃ : ℕ
  b₃ = 0x80 + c / 64 % 64

  abbrev c₃ : ℕ
  c₃ = 0x80 + c % 64

  passes_three : is_three a₃ b₃ c₃ ≡ true
  passes_three =
      upto c 0xFFF
      (λ k. simp (eq-eqb a₃ 0xE0 (omega arith), le-leb 0xA0 b₃ (omega arith), tails))
      (λ k. upto c 0xCFFF
      (λ m. simp (le-leb 0xE1 a₃ (omega arith), le-leb a₃ 0xEC (omega arith), tails, or-true))
      (λ m. ⊎_elim
      (λ x. simp (eq-eqb a₃ 0xED (omega arith), le-leb b₃ 0x9F (omega arith), tails, or-true))
      (λ x. simp (le-leb 0xEE a₃ (omega arith), le-leb a₃ 0xEF (omega arith), tails, or-true))
      s))

  encode_three : Encodes c
  unfolding encode char_len code_point first
  encode_three =
      encodes c a₃ (b₃ ∷ c₃ ∷ [])
      (simp (lt-leb c 0x7F (omega arith), lt-leb c 0x7FF h, le-leb c 0xFFFF l))
      (λ w. pick_three (is_one a₃) (is_two a₃ b₃) (is_three a₃ b₃ c₃) (is_four a₃ b₃ c₃ (get_or w 0 0))
      (lt-leb a₃ 0x7F (omega arith))
      (simp (lt-leb a₃ 0xDF (omega arith), and-false))
      passes_three)
      (omega arith)

module _ (c : ℕ) (h : 0x10000 ≤ c) (l : c ≤ 0x10FFFF) where
  abbrev a₄ : ℕ
  a₄ = 0xF0 + c / 262144

  abbrev b₄ : ℕ
  b₄ = 0x80 + c / 4096 % 64

  abbrev c₄ : ℕ
  c₄ = 0x80 + c / 64 % 64

  abbrev d₄ : ℕ
  d₄ = 0x80 + c % 64

  passes_four : is_four a₄ b₄ c₄ d₄ ≡ true
  passes_four =
      upto c 0x3FFFF
      (λ k. simp (eq-eqb a₄ 0xF0 (omega arith), le-leb 0x90 b₄ (omega arith), tails))
      (λ k. upto c 0xFFFFF
      (λ m. simp (le-leb 0xF1 a₄ (omega arith), le-leb a₄ 0xF3 (omega arith), tails, or-true))
      (λ m. simp (eq-eqb a₄ 0xF4 (omega arith), le-leb b₄ 0x8F (omega arith), tails, or-true)))

  encode_four : Encodes c
  unfolding encode char_len code_point first
  encode_four =
      encodes c a₄ (b₄ ∷ c₄ ∷ d₄ ∷ [])
      (simp (lt-leb c 0x7F (omega arith), lt-leb c 0x7FF (omega arith), lt-leb c 0xFFFF h))
      (λ w. pick_four (is_one a₄) (is_two a₄ b₄) (is_three a₄ b₄ c₄) (is_four a₄ b₄ c₄ d₄)
      (lt-leb a₄ 0x7F (omega arith))
      (simp (lt-leb a₄ 0xDF (omega arith), and-false))
      (simp (ne_eqb a₄ 0xE0 (λ z. omega arith), ne_eqb a₄ 0xED (λ z. omega arith), lt-leb a₄ 0xEC (omega arith), lt-leb a₄ 0xEF (omega arith), and-false))
      passes_four)
      (let e₁ : a₄ % 8 ≡ c / 262144 = omega arith in
      let e₂ : c / 262144 * 64 + c / 4096 % 64 ≡ c / 4096 = omega arith in
      let e₃ : c / 4096 * 64 + c / 64 % 64 ≡ c / 64 = omega arith in
      let e₄ : c / 64 * 64 + c % 64 ≡ c = omega arith in
      simp (tail_bits, e₁, e₂, e₃, e₄))

pub scalar_encodes : (c : ℕ) → is_scalar c ≡ true → Encodes c
scalar_encodes c e =
    upto c 0x7F (encode_one c)
    (λ h. upto c 0x7FF (encode_two c h)
    (λ k. upto c 0xFFFF (λ l. encode_three c k l range)
    (λ m. ⊎_elim (λ x. absurd (omega arith)) (λ x. encode_four c m (in_range 0xE000 0x10FFFF c x).1) (⊎_elim (λ x. inl (in_range 0 0xD7FF c x).1) (λ x. inr x) s))))
  where
    s : (within 0 0xD7FF c ≡ true) ⊎ (within 0xE000 0x10FFFF c ≡ true)
    s = either (within 0 0xD7FF c) (within 0xE000 0x10FFFF c) e

    range : (c ≤ 0xD7FF) ⊎ (0xE000 ≤ c)
    range = ⊎_elim (λ x. inl (in_range 0 0xD7FF c x).1) (λ x. inr (in_range 0xE000 0x10FFFF c x).0) s

-- the encodings of scalar values are readable, their characters are the single encodings, and the
-- code points are got back
pub encode_chars : (cs : List ℕ) → all is_scalar cs ≡ true → chars (encode_all cs) ≡ map encode cs
unfolding all flatten chars_from
encode_chars [] h = refl
encode_chars (c ∷ cs) h =
    let b = both (is_scalar c) (all is_scalar cs) h in
    let e : Encodes c = scalar_encodes c b.0 in
    chars_front (encode c) (encode_all cs) e.some_byte (omega (arith, e.char (encode_all cs), e.some_byte))
    ∙ ap (λ l. encode c ∷ l) (encode_chars cs b.1)

pub encode_is_char : (c : ℕ) → is_scalar c ≡ true → is_char (encode c) ≡ true
encode_is_char c h =
    let e : Encodes c = scalar_encodes c h in
    lt-ltb 0 (char_len (encode c)) (omega (arith, e.char [], e.some_byte, ap (λ p. char_len p) (append-nil (encode c))))

pub encode_readable : (cs : List ℕ) → all is_scalar cs ≡ true → readable (encode_all cs) ≡ true
encode_readable cs h = ap (all is_char) (encode_chars cs h) ∙ all_map encode is_char is_scalar encode_is_char cs h

pub decode_encode : (cs : List ℕ) → all is_scalar cs ≡ true → decode (encode_all cs) ≡ cs
unfolding all
decode_encode cs h = ap (map code_point) (encode_chars cs h) ∙ go cs h
  where
    go : (cs : List ℕ) → all is_scalar cs ≡ true → map code_point (map encode cs) ≡ cs
    go [] h = refl
    go (c ∷ cs) h =
        let b = both (is_scalar c) (all is_scalar cs) h in
        cc ((scalar_encodes c b.0).back, go cs b.1)
