-- Laws of white space at the places where the loops stand: from the place i on, and in front of the
-- place n.
use Rattle.std.specs.Prelude.{Some, None}
use mathlib.Core.Path.{◌≡◌, refl, sym, ap, ◌∙◌}
use mathlib.Core.List.{List, reverse}
use Prim.Native.Nat.{ℕ, ◌+◌, ◌-◌, ◌^◌, ◌≤◌, ◌<◌}
use native.Mathlib.Omega.{arith}
use mir.Syntax.{w64}
use mir.Val.{Fits}
use lib.ListN.{length, take, drop, length-drop}
use lib.Seq.{take_all, drop-drop, take-take, take-length, length-take-le}
use Rattle.utf8.specs.Utf8.{piece_len, chars}
use Rattle.utf8.proofs.CharLaws.{piece_le}
use Rattle.text.specs.White.{trim_start, trim_end, after_token, white_len, unless_zero}
use Rattle.text.proofs.LengthLaws.{none_zero, some_more}
use Rattle.text.proofs.WhiteLaws.{white_within, start_stop, start_more, white_end_within, end_stop, end_more, token_none, ink_stop, ink_more}

-- the text from the place i on
module _ (s : List ℕ) (i : ℕ) where
  abbrev rest : List ℕ
  rest = take (length s - i) (drop i s)

  rest_is : rest ≡ drop i s
  rest_is = take_all (length s - i) (drop i s) (simp length-drop (omega arith))

  some_left : i < length s → 0 < length (drop i s)
  some_left h = simp length-drop (omega arith)

  white_rest : white_len (chars rest) ≡ white_len (chars (drop i s))
  white_rest = ap (λ t. white_len (chars t)) rest_is

  module _ (k : ℕ) (f : Some k ≡ unless_zero (white_len (chars (take (length s - i) (drop i s))))) where
    white_is : k ≡ white_len (chars (drop i s))
    white_is = (some_more k _ f).0 ∙ white_rest

    pub white_pos : 0 < k
    white_pos = (some_more k _ f).1

    pub white_inside : i ≤ length s → i + k ≤ length s
    white_inside h = omega (arith, white_within (drop i s) k white_is, length-drop i s)

    pub white_fits : i ≤ length s → length s < 2 ^ 64 → Fits w64 (i + k)
    white_fits h l = record { fits = omega (arith, white_inside h) }

-- trim_start
module _ (s : List ℕ) (i : ℕ) (e : trim_start s ≡ trim_start (drop i s)) where
  pub white_kept : None ≡ unless_zero (white_len (chars (take (length s - i) (drop i s)))) → take (length s - i) (drop i s) ≡ trim_start s
  white_kept f = rest_is s i ∙ sym (e ∙ start_stop (drop i s) 0 (sym (none_zero _ f) ∙ white_rest s i) refl)

  pub white_passed : (k : ℕ) → Some k ≡ unless_zero (white_len (chars (take (length s - i) (drop i s)))) → trim_start s ≡ trim_start (drop (i + k) s)
  white_passed k f = e ∙ start_more (drop i s) k (white_is s i k f) (λ z. omega (arith, white_pos s i k f)) ∙ ap trim_start (drop-drop k i s)

-- token_end
module _ (s : List ℕ) (at i : ℕ) (e : after_token (drop at s) ≡ after_token (drop i s)) where
  ended : i ≤ length s → after_token (drop i s) ≡ drop i s → i ≡ length s - length (after_token (drop at s))
  ended h f = omega (arith, ap length (e ∙ f), length-drop i s)

  pub token_ended : i ≤ length s → length s ≤ i → i ≡ length s - length (after_token (drop at s))
  token_ended h l = ended h (token_none (drop i s) (simp length-drop (omega arith)))

  module _ (h : i < length s) where
    ink_rest : piece_len (take (length s - i) (drop i s)) - white_len (chars (take (length s - i) (drop i s))) ≡ piece_len (drop i s) - white_len (chars (drop i s))
    ink_rest = ap (λ t. piece_len t - white_len (chars t)) (rest_is s i)

    pub white_ends : None ≡ unless_zero (piece_len (take (length s - i) (drop i s)) - white_len (chars (take (length s - i) (drop i s)))) → i ≡ length s - length (after_token (drop at s))
    white_ends f = ended (omega arith) (ink_stop (drop i s) 0 (sym (none_zero _ f) ∙ ink_rest) refl)

    module _ (k : ℕ) (f : Some k ≡ unless_zero (piece_len (take (length s - i) (drop i s)) - white_len (chars (take (length s - i) (drop i s))))) where
      ink_is : k ≡ piece_len (drop i s) - white_len (chars (drop i s))
      ink_is = (some_more k _ f).0 ∙ ink_rest

      pub ink_pos : 0 < k
      ink_pos = (some_more k _ f).1

      pub ink_on : after_token (drop at s) ≡ after_token (drop (i + k) s)
      ink_on = e ∙ ink_more (drop i s) k ink_is (some_left s i h) (λ z. omega (arith, ink_pos)) ∙ ap after_token (drop-drop k i s)

      pub ink_inside : i + k ≤ length s
      ink_inside = omega (arith, ink_is, piece_le (drop i s) (some_left s i h), length-drop i s)

      pub ink_fits : length s < 2 ^ 64 → Fits w64 (i + k)
      ink_fits l = record { fits = omega (arith, ink_inside) }

-- the text in front of the place n
pub all_in_front : (s : List ℕ) → trim_end s ≡ trim_end (take (length s) s)
all_in_front s = ap trim_end (sym (take-length s))

pub less_in_front : (s : List ℕ) (n k : ℕ) → n ≤ length s → n - k ≤ length s
less_in_front s n k h = omega arith

module _ (s : List ℕ) (n k : ℕ) (h : n ≤ length s) (f : Some k ≡ unless_zero (white_len (reverse (chars (take n s))))) where
  white_end_is : (k ≡ white_len (reverse (chars (take n s)))) × (0 < k)
  white_end_is = some_more k _ f

  pub white_end_pos : 0 < k
  white_end_pos = white_end_is.1

  pub white_end_inside : k ≤ n
  white_end_inside = omega (arith, white_end_within (take n s) k white_end_is.0, length-take-le n s h)

-- trim_end
module _ (s : List ℕ) (n : ℕ) (h : n ≤ length s) (e : trim_end s ≡ trim_end (take n s)) where
  size : length (take n s) ≡ n
  size = length-take-le n s h

  pub white_end_kept : None ≡ unless_zero (white_len (reverse (chars (take n s)))) → take n s ≡ trim_end s
  white_end_kept f = sym (e ∙ end_stop (take n s) 0 (sym (none_zero _ f)) refl)

  pub white_end_passed : (k : ℕ) → Some k ≡ unless_zero (white_len (reverse (chars (take n s)))) → trim_end s ≡ trim_end (take (n - k) s)
  white_end_passed k f =
      e ∙ end_more (take n s) k (white_end_is s n k h f).0 (λ z. omega (arith, white_end_pos s n k h f))
      ∙ ap (λ m. trim_end (take (m - k) (take n s))) size
      ∙ ap trim_end (take-take (n - k) n s (omega arith))

-- what the loops use
pub ruleset start_laws = (white_pos, white_inside, white_fits, white_kept, white_passed)

pub ruleset token_laws = (white_ends, ink_pos, ink_on, ink_inside, ink_fits, token_ended)

pub ruleset end_laws = (all_in_front, less_in_front, white_end_pos, white_end_inside, white_end_kept, white_end_passed)
