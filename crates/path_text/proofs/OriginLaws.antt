-- A last letter behind a space is the last token: no walk over the tokens is needed.
use Rattle.std.specs.Prelude.{Some, None}
use Prim.Native.Nat.{ℕ, suc, ◌-◌, ◌≤◌}
use mathlib.Core.Path.{◌≡◌, refl, sym, ap, ◌∙◌}
use mathlib.Core.Bool.{Bool, true, false, cond, and-true, and-false, false≢true}
use mathlib.Core.List.{List, [], ◌∷◌, ◌++◌, flatten}
use native.Mathlib.Omega.{arith}
use lib.ListN.{length, get_or, take, drop, take-append-drop, drop_of_length-le}
use lib.Seq.{drop-cons}
use lib.Dec.{eqb}
use borrow.Author.Tests.{eqb-true}
use Rattle.scan.specs.Lists.{onto, non_empty, split_by}
use Rattle.scan.specs.Search.{equal}
use Rattle.utf8.specs.Utf8.{chars_from, char_len, code_point}
use Rattle.text.specs.White.{is_white, is_space, tokens}
use Rattle.path_text.proofs.TokensLaws.{parted}
use Rattle.path_text.specs.Path.{last_or, last_token, letter, is_known, origin_of}
use Rattle.elem.specs.declared.Origin.TheVariants.{IGP, EGP, INCOMPLETE}
use Rattle.elem.specs.declared.Origin.{Origin}

last_append : (w : List ℕ) (a : List (List ℕ)) (x : List ℕ) → last_or w (a ++ (x ∷ [])) ≡ x
unfolding last_or
last_append w [] x = refl
last_append w (y ∷ a) x = last_append y a x

-- a letter is one byte
pub letter_byte : (b : ℕ) → letter (b ∷ []) ≡ cond (eqb b 105) (Some IGP) (cond (eqb b 101) (Some EGP) (cond (eqb b 63) (Some INCOMPLETE) None))
unfolding letter equal
letter_byte b = simp and-true

pub letter_one : (w : List ℕ) (b : ℕ) → length w ≡ 1 → get_or w 0 0 ≡ b → letter w ≡ letter (b ∷ [])
letter_one [] b h e = absurd (omega arith)
letter_one (x ∷ []) b h e = ap (λ y. letter (y ∷ [])) e
letter_one (x ∷ y ∷ w) b h e = absurd (omega arith)

pub letter_other : (w : List ℕ) → (length w ≡ 1 → ⊥) → letter w ≡ None
unfolding letter equal
letter_other [] h = refl
letter_other (x ∷ []) h = absurd (h refl)
letter_other (x ∷ y ∷ w) h = simp and-false

-- a byte b that is a character and not white, behind a space
module _ (b : ℕ) (one : tokens (b ∷ []) ≡ (b ∷ []) ∷ []) where
  ends : (s : List ℕ) → 2 ≤ length s → get_or s (length s - 2) 0 ≡ 32 → get_or s (length s - 1) 0 ≡ b → s ≡ take (length s - 2) s ++ (32 ∷ b ∷ [])
  ends s h e f =
      let k : suc (length s - 2) ≡ length s - 1 = omega arith in
      let m : suc (length s - 1) ≡ length s = omega arith in
      let last : drop (length s - 1) s ≡ b ∷ [] = drop-cons s (length s - 1) 0 (omega arith) ∙ rw (f, m, drop_of_length-le s {i = length s} (omega arith)) in
      let both : drop (length s - 2) s ≡ 32 ∷ b ∷ [] = drop-cons s (length s - 2) 0 (omega arith) ∙ rw (e, k, last) in
      sym (take-append-drop (length s - 2) s) ∙ ap (λ l. take (length s - 2) s ++ l) both

  last_is : (s : List ℕ) → 2 ≤ length s → get_or s (length s - 2) 0 ≡ 32 → get_or s (length s - 1) 0 ≡ b → letter (b ∷ []) ≡ origin_of s
  unfolding last_token
  last_is s h e f =
      ap letter (sym (ap (λ l. last_or [] (tokens l)) (ends s h e f) ∙ ap (last_or []) (parted (take (length s - 2) s) (b ∷ []) ∙ ap (λ l. tokens (take (length s - 2) s) ++ l) one) ∙ last_append [] (tokens (take (length s - 2) s)) (b ∷ [])))

-- so it is with each of the letters
module _ (s : List ℕ) (h : 2 ≤ length s) (e : get_or s (length s - 2) 0 ≡ 32) (o : Origin) (k : Some o ≡ letter (get_or s (length s - 1) 0 ∷ [])) where
  of : (b : ℕ) → tokens (b ∷ []) ≡ (b ∷ []) ∷ [] → eqb (get_or s (length s - 1) 0) b ≡ true → Some o ≡ origin_of s
  of b one q = let f = eqb-true (get_or s (length s - 1) 0) b q in k ∙ ap (λ x. letter (x ∷ [])) f ∙ last_is b one s h e f

  pub ends_letter : Some o ≡ origin_of s
  unfolding chars_from char_len split_by onto non_empty is_space is_white code_point flatten
  ends_letter = go (eqb last 105) refl (eqb last 101) refl (eqb last 63) refl (k ∙ letter_byte last)
    where
      last : ℕ
      last = get_or s (length s - 1) 0

      go : (x : Bool) → eqb last 105 ≡ x → (y : Bool) → eqb last 101 ≡ y → (z : Bool) → eqb last 63 ≡ z
          → Some o ≡ cond x (Some IGP) (cond y (Some EGP) (cond z (Some INCOMPLETE) None)) → Some o ≡ origin_of s
      go true p y q z r n = of 105 refl p
      go false p true q z r n = of 101 refl q
      go false p false q true r n = of 63 refl r
      go false p false q false r n = absurd (false≢true (sym (ap is_known n)))

-- for letter_of: a letter is one byte, and which
pub ruleset letter_laws = (letter_byte, letter_one, letter_other)
