-- Tokens of a text that a space parts, and of digits.
use Rattle.std.specs.Prelude.{Some}
use Prim.Native.Nat.{ℕ, ◌+◌, ◌-◌, ◌*◌, ◌≤◌, ◌<◌}
use mathlib.Core.Path.{◌≡◌, refl, ap, ◌∙◌}
use mathlib.Core.Bool.{Bool, true, false, cond}
use mathlib.Core.List.{List, [], ◌∷◌, ◌++◌, map, map-append, flatten}
use native.Mathlib.Omega.{arith}
use lib.ListN.{length}
use borrow.Author.Tests.{le-leb}
use Rattle.scan.specs.Lists.{onto, non_empty, split_by, tokens_by}
use Rattle.utf8.specs.Utf8.{chars_from, chars, char_len, code_point}
use Rattle.utf8.proofs.CharLaws.{char_one}
use Rattle.utf8.proofs.CharsLaws.{chars_append, chars_front, flatten_chars}
use Rattle.text.specs.White.{is_white, is_space, white_len, tokens}
use Rattle.text.proofs.WhiteLaws.{front_visible}
use Rattle.decimal.specs.Decimal.{is_digit, behind, digits}
use Rattle.decimal.proofs.Laws.{none_some, behind_cons, digit_low, digit_high}

-- tokens in front of an element that parts them, and behind it
module _ {A : Type 0} (p : A → Bool) where
  split_some : (s : List A) → (w : List A) × (l : List (List A)) × (split_by p s ≡ w ∷ l)
  unfolding split_by onto
  split_some [] = ([], [], refl)
  split_some (x ∷ s) = go (p x) (split_some s)
    where
      go : (z : Bool) → ((w : List A) × (l : List (List A)) × (split_by p s ≡ w ∷ l))
          → (w : List A) × (l : List (List A)) × (cond z ([] ∷ split_by p s) (onto x (split_by p s)) ≡ w ∷ l)
      go true q = ([], split_by p s, refl)
      go false q = (x ∷ q.0, q.1, rw q.2)

  split_append : (s t : List A) (c : A) → p c ≡ true → split_by p (s ++ (c ∷ t)) ≡ split_by p s ++ split_by p t
  unfolding split_by onto
  split_append [] t c e = rw e
  split_append (x ∷ s) t c e = go (p x) (split_append s t c e) (split_some s)
    where
      go : (z : Bool) → split_by p (s ++ (c ∷ t)) ≡ split_by p s ++ split_by p t → ((w : List A) × (l : List (List A)) × (split_by p s ≡ w ∷ l))
          → cond z ([] ∷ split_by p (s ++ (c ∷ t))) (onto x (split_by p (s ++ (c ∷ t)))) ≡ cond z ([] ∷ split_by p s) (onto x (split_by p s)) ++ split_by p t
      go true i q = rw i
      go false i q = rw (i, q.2)

non_empty_append : {A : Type 0} (a b : List (List A)) → non_empty (a ++ b) ≡ non_empty a ++ non_empty b
unfolding non_empty
non_empty_append [] b = refl
non_empty_append ([] ∷ a) b = non_empty_append a b
non_empty_append ((x ∷ w) ∷ a) b = ap (λ l. (x ∷ w) ∷ l) (non_empty_append a b)

-- an ASCII byte is a character
pub chars_ascii : (b : ℕ) (t : List ℕ) → b < 0x80 → chars (b ∷ t) ≡ (b ∷ []) ∷ chars t
chars_ascii b t h = chars_front (b ∷ []) t (omega arith) (omega (arith, char_one (b ∷ t) (λ z. omega arith) h))

space : is_space (32 ∷ []) ≡ true
unfolding is_space is_white code_point char_len
space = refl

-- a space parts the tokens
pub parted : (q t : List ℕ) → tokens (q ++ (32 ∷ t)) ≡ tokens q ++ tokens t
parted q t =
    ap (λ l. map flatten (tokens_by is_space l)) (chars_append q (32 ∷ t) refl ∙ ap (λ l. chars q ++ l) (chars_ascii 32 t (omega arith)))
    ∙ ap (λ l. map flatten (non_empty l)) (split_append is_space (chars q) (chars t) (32 ∷ []) space)
    ∙ ap (map flatten) (non_empty_append (split_by is_space (chars q)) (split_by is_space (chars t)))
    ∙ map-append flatten (tokens_by is_space (chars q)) (tokens_by is_space (chars t))

-- visible ASCII is not white
visible : (b : ℕ) → 0x21 ≤ b → b ≤ 0x7E → is_space (b ∷ []) ≡ false
unfolding white_len
visible b l h =
    let e : 0 ≡ white_len ((b ∷ []) ∷ []) = front_visible (b ∷ []) (omega arith) (simp (le-leb 0x21 b l, le-leb b 0x7E h)) ∙ ap white_len (chars_ascii b [] (omega arith)) in
    go (is_space (b ∷ [])) e
  where
    go : (z : Bool) → ◌≡◌ {A = ℕ} 0 (cond z 1 0) → z ≡ false
    go true e = absurd (omega arith)
    go false e = refl

no_chars : chars [] ≡ []
unfolding chars_from
no_chars = refl

-- digits are one piece
one_piece : (v n : ℕ) (d : List ℕ) → behind v d ≡ Some n → split_by is_space (chars d) ≡ chars d ∷ []
unfolding split_by onto
one_piece v n [] e = rw no_chars
one_piece v n (b ∷ d) e =
    let f : (is_digit b ≡ true) × (behind (v * 10 + (b - 48)) d ≡ Some n) = behind_cons v b n d e in
    let c : chars (b ∷ d) ≡ (b ∷ []) ∷ chars d = chars_ascii b d (omega (arith, digit_high b f.0)) in
    rw (c, visible b (omega (arith, digit_low b f.0)) (omega (arith, digit_high b f.0)), one_piece (v * 10 + (b - 48)) n d f.1)

-- and a token
pub digits_token : (n : ℕ) (d : List ℕ) → digits d ≡ Some n → tokens d ≡ d ∷ []
unfolding digits non_empty flatten
digits_token n [] e = absurd (none_some e)
digits_token n (b ∷ d) e = go (chars (b ∷ d)) (flatten_chars (b ∷ d)) (one_piece 0 n (b ∷ d) e)
  where
    go : (l : List (List ℕ)) → flatten l ≡ b ∷ d → split_by is_space (chars (b ∷ d)) ≡ l ∷ [] → tokens (b ∷ d) ≡ (b ∷ d) ∷ []
    go [] f g = let z : ◌≡◌ {A = ℕ} (length {A = ℕ} []) (length (b ∷ d)) = ap length f in absurd (omega arith)
    go (x ∷ l) f g = rw (g, f)
