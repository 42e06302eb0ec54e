-- Laws of trimming. They hold for any bytes.
use mathlib.Core.Path.{◌≡◌, sym, ap, ◌∙◌}
use mathlib.Core.List.{List, ◌++◌, flatten, reverse, reverse-append, reverse-reverse}
use mathlib.Core.Bool.{Bool, true}
use Prim.Native.Nat.{ℕ, ◌≤◌}
use native.Mathlib.Omega.{arith}
use lib.ListN.{length, length-append}
use Rattle.scan.specs.Lists.{take_while, drop_while}
use Rattle.scan.proofs.ListLaws.{take_while_drop_while}
use Rattle.utf8.specs.Utf8.{all, chars, readable}
use Rattle.text.specs.White.{is_space, skip, trim_start, drop_while_end, trim_end, trim}
use Rattle.utf8.proofs.ListLaws.{all_parts, flatten_append}
use Rattle.text.proofs.ListLaws.{drop_both}
use Rattle.utf8.proofs.ReadableLaws.{readable_parts}
use Rattle.utf8.proofs.CharsLaws.{chars_of_front, chars_of_rest, flatten_chars}

-- what is passed over, and what is left
module _ (p : List ℕ → Bool) (s : List ℕ) where
  pub skip_part : flatten (take_while p (chars s)) ++ skip p s ≡ s
  unfolding skip
  skip_part = sym (flatten_append (take_while p (chars s)) (drop_while p (chars s))) ∙ ap flatten (take_while_drop_while p (chars s)) ∙ flatten_chars s

  pub skip_length : length (skip p s) ≤ length s
  skip_length = omega (arith, ap length skip_part, length-append (flatten (take_while p (chars s))) (skip p s))

  pub chars_skip : chars (skip p s) ≡ drop_while p (chars s)
  unfolding skip
  chars_skip = chars_of_rest (take_while p (chars s)) (drop_while p (chars s)) s (sym (take_while_drop_while p (chars s)))

-- the same from the back
module _ (p : List ℕ → Bool) where
  abbrev pub dropped : List (List ℕ) → List (List ℕ)
  dropped l = reverse (take_while p (reverse l))

  pub end_parted : (l : List (List ℕ)) → drop_while_end p l ++ dropped l ≡ l
  end_parted l = sym (reverse-append (take_while p (reverse l)) (drop_while p (reverse l))) ∙ ap reverse (take_while_drop_while p (reverse l)) ∙ reverse-reverse l

module _ (s : List ℕ) where
  pub trim_end_part : trim_end s ++ flatten (dropped is_space (chars s)) ≡ s
  unfolding trim_end
  trim_end_part = sym (flatten_append (drop_while_end is_space (chars s)) (dropped is_space (chars s))) ∙ ap flatten (end_parted is_space (chars s)) ∙ flatten_chars s

  pub chars_trim_end : chars (trim_end s) ≡ drop_while_end is_space (chars s)
  unfolding trim_end
  chars_trim_end = chars_of_front (drop_while_end is_space (chars s)) (dropped is_space (chars s)) s (sym (end_parted is_space (chars s)))

  pub trim_end_length : length (trim_end s) ≤ length s
  trim_end_length = omega (arith, ap length trim_end_part, length-append (trim_end s) (flatten (dropped is_space (chars s))))

  -- what holds of every byte holds of every byte that is left
  pub trim_end_all : (p : ℕ → Bool) → all p s ≡ true → all p (trim_end s) ≡ true
  trim_end_all p h = (all_parts p (trim_end s) (flatten (dropped is_space (chars s))) (ap (all p) trim_end_part ∙ h)).0

  -- both ends, the front first
  pub trim_is : trim s ≡ trim_end (trim_start s)
  unfolding trim trim_end
  trim_is = ap (λ l. flatten (drop_while_end is_space l)) (sym (chars_skip is_space s))

-- or the end first
pub trim_order : (s : List ℕ) → trim s ≡ trim_start (trim_end s)
unfolding trim trim_end skip
trim_order s = ap flatten (sym (drop_both is_space (chars s))) ∙ ap (λ l. flatten (drop_while is_space l)) (sym (chars_trim_end s))

-- a part of the text
pub trim_part : (s : List ℕ) → (flatten (take_while is_space (chars s)) ++ (trim s ++ flatten (dropped is_space (chars (trim_start s))))) ≡ s
trim_part s = ap (λ x. flatten (take_while is_space (chars s)) ++ (x ++ flatten (dropped is_space (chars (trim_start s))))) (trim_is s) ∙ ap (λ x. flatten (take_while is_space (chars s)) ++ x) (trim_end_part (trim_start s)) ∙ skip_part is_space s

pub trim_length : (s : List ℕ) → length (trim s) ≤ length s
trim_length s = omega (arith, ap length (trim_is s), trim_end_length (trim_start s), skip_length is_space s)

-- what is left of readable text is readable
pub trim_start_readable : (s : List ℕ) → readable s ≡ true → readable (trim_start s) ≡ true
unfolding skip
trim_start_readable s h = (readable_parts s (take_while is_space (chars s)) (drop_while is_space (chars s)) (sym (take_while_drop_while is_space (chars s))) h).1

pub trim_end_readable : (s : List ℕ) → readable s ≡ true → readable (trim_end s) ≡ true
unfolding trim_end
trim_end_readable s h = (readable_parts s (drop_while_end is_space (chars s)) (dropped is_space (chars s)) (sym (end_parted is_space (chars s))) h).0

pub trim_readable : (s : List ℕ) → readable s ≡ true → readable (trim s) ≡ true
trim_readable s h = ap readable (trim_is s) ∙ trim_end_readable (trim_start s) (trim_start_readable s h)
