-- Laws of readable text, and of ASCII as its loop meets it.
use mathlib.Core.Path.{◌≡◌, refl, sym, ap, ◌∙◌}
use mathlib.Core.List.{List, [], ◌∷◌, ◌++◌, flatten}
use mathlib.Core.Bool.{Bool, true, false, ◌&&◌}
use Prim.Native.Nat.{ℕ, ◌-◌, ◌*◌, ◌/◌, ◌≤◌, ◌<◌}
use native.Mathlib.Omega.{arith}
use lib.Dec.{ltb}
use lib.ListN.{length, take, drop, length-drop}
use lib.Seq.{take_all, take-take}
use borrow.Author.Tests.{leb-true}
use Rattle.std.specs.Simd.{first_chunks}
use Rattle.scan.proofs.ListLaws.{flatten_chunks}
use Rattle.utf8.specs.Utf8.{is_one, char_len, piece_len, chars_from, chars, is_char, all, readable}
use Rattle.utf8.proofs.TestLaws.{both}
use Rattle.utf8.proofs.ListLaws.{all_append, all_parts, all_split}
use Rattle.utf8.proofs.CharLaws.{Begins, char_one}
use Rattle.utf8.proofs.CharsLaws.{chars_more, char_piece, chars_append, chars_of_front, chars_of_rest}

-- the first character and the rest
readable_more : (s : List ℕ) → 0 < length s → readable s ≡ (is_char s && readable (drop (piece_len s) s))
unfolding all
readable_more s h = ap (all is_char) (chars_more s h) ∙ ap (λ k. ltb 0 k && readable (drop (piece_len s) s)) (char_piece s h)

-- ASCII is readable
pub ascii_readable : (s : List ℕ) (r : Bool) → r ≡ all is_one s → r ≡ true → true ≡ readable s
unfolding all chars_from
ascii_readable s r e t = sym (go s (sym e ∙ t))
  where
    go : (s : List ℕ) → all is_one s ≡ true → readable s ≡ true
    go [] e = refl
    go (b ∷ s) e =
        let one : char_len (b ∷ s) ≡ 1 = sym (char_one (b ∷ s) (λ z. omega arith) (omega (arith, leb-true b 0x7F (both (is_one b) (all is_one s) e).0))) in
        readable_more (b ∷ s) (omega arith) ∙ simp one (go s (both (is_one b) (all is_one s) e).1)

-- is it ASCII: the chunks of 64 bytes, and then the last 64
module _ (s : List ℕ) (chunks : List (List ℕ)) (y : Bool) (cut : chunks ≡ first_chunks 64 (length s / 64) s) (e : y ≡ all is_one (flatten chunks)) where
  front_seen : y ≡ all is_one (take (length s / 64 * 64) s)
  front_seen = e ∙ ap (all is_one) (ap flatten cut ∙ flatten_chunks 64 (length s / 64) s)

  pub ascii_bad : y ≡ false → false ≡ all is_one s
  ascii_bad f = sym (all_split is_one s (length s / 64 * 64) ∙ rw (← front_seen, f))

  pub ascii_last : y ≡ true → (r : Bool) → r ≡ all is_one (take (length s - (length s - 64)) (drop (length s - 64) s)) → r ≡ all is_one s
  ascii_last t r q =
      q ∙ ap (all is_one) (take_all (length s - (length s - 64)) (drop (length s - 64) s) (simp length-drop (omega arith)))
      ∙ sym (all_split is_one s (length s - 64) ∙ simp (front (length s - 64) (omega arith)))
    where
      front : (n : ℕ) → n ≤ length s / 64 * 64 → all is_one (take n s) ≡ true
      front n h =
          ap (all is_one) (sym (take-take n (length s / 64 * 64) s h))
          ∙ (both _ _ (sym (all_split is_one (take (length s / 64 * 64) s) n) ∙ sym front_seen ∙ t)).0

-- a text parted in front of a byte that is no UTF8-tail is readable where both parts are
pub readable_append : (q w : List ℕ) → Begins w → readable (q ++ w) ≡ (readable q && readable w)
readable_append q w t = ap (all is_char) (chars_append q w t) ∙ all_append is_char (chars q) (chars w)

-- of readable text, the characters up to any of them, and those behind it
pub readable_parts : (s : List ℕ) (l m : List (List ℕ)) → chars s ≡ l ++ m → readable s ≡ true → (readable (flatten l) ≡ true) × (readable (flatten m) ≡ true)
readable_parts s l m e h =
    let r = all_parts is_char l m (ap (all is_char) (sym e) ∙ h) in
    (ap (all is_char) (chars_of_front l m s e) ∙ r.0, ap (all is_char) (chars_of_rest l m s e) ∙ r.1)

-- what is_ascii uses
pub ruleset ascii_laws = (ascii_bad, ascii_last)
