-- Laws of columns that are blank or hold a number: the spaces in front are passed over.
use Rattle.std.proofs.Common.{◌≡◌, ℕ, zero, suc, Option, Some, None, is_none, ◌-◌, ◌<◌, ◌≤◌, Bool, true, false, cond, not, eqb, eqb-true, List, [], ◌∷◌, ◌++◌, reverse, length, get_or, take, drop, sym, refl, ap, ◌∙◌, arith, length-drop, take_all, drop-cons, ne_eqb}
use Rattle.std.specs.List.{position}
use Rattle.std.proofs.lemmas.List.Quantifiers.{position-Some}
use borrow.Author.Tests.{not-false}
use mathlib.Core.List.{reverse-cons, nil≢cons}
use lib.ListN.{length-reverse}
use Rattle.scan.specs.Lists.{drop_while}
use Rattle.scan.proofs.ListLaws.{drop_while_head}
use Rattle.utf8.specs.Utf8.{all, chars_from, chars}
use Rattle.decimal.specs.Decimal.{unsigned, read_u32}
use Rattle.text.specs.White.{is_space, trim_start, drop_while_end, trim_end, trim}
use Rattle.text.proofs.TrimLaws.{trim_is, chars_skip, chars_trim_end}
use Rattle.text.proofs.WhiteLaws.{front_seen, start_stop}
use Rattle.fields.specs.Fronts.{is_blank}
use Rattle.fields.proofs.SpaceLaws.{front_space, none_end, spaces_trim, ink_none}

-- the spaces at the front are passed over
passed : (s : List ℕ) (i : ℕ) → i ≤ length s → ((k : ℕ) → k < i → not (is_blank (get_or s k 0)) ≡ false) → trim_start s ≡ trim_start (drop i s)
passed s zero h f = refl
passed s (suc i) h f =
    let y : get_or s i 0 ≡ 32 = eqb-true (get_or s i 0) 32 (not-false (is_blank (get_or s i 0)) (f i (omega arith))) in
    let l : i < length s = omega arith in
    passed s i (omega arith) (λ k m. f k (omega arith)) ∙ rw (drop-cons s i 0 l, y) (front_space (drop (suc i) s))

module _ (s : List ℕ) (f : Option ℕ) (q : f ≡ position (λ b. not (is_blank b)) s) where
  module _ (i : ℕ) (y : f ≡ Some i) where
    pub ink_inside : i < length s
    ink_inside = (position-Some (λ b. not (is_blank b)) s i 0 (sym q ∙ y)).0

    trimmed : trim s ≡ trim (take (length s - i) (drop i s))
    trimmed =
        let h = position-Some (λ b. not (is_blank b)) s i 0 (sym q ∙ y) in
        trim_is s
        ∙ ap trim_end (passed s i (omega (arith, h.0)) h.2)
        ∙ sym (trim_is (drop i s))
        ∙ ap trim (sym (take_all (length s - i) (drop i s) (simp length-drop (omega arith))))

    pub number_here : (r : Option ℕ) → r ≡ read_u32 (trim (take (length s - i) (drop i s))) → r ≡ read_u32 (trim s)
    number_here r e = e ∙ ap read_u32 (sym trimmed)

  pub number_none : f ≡ None → None ≡ read_u32 (trim s)
  unfolding all unsigned
  number_none y = sym (ap read_u32 (spaces_trim s (sym (ink_none s f q) ∙ ap is_none y)))

-- nothing but spaces, in a text of n bytes
pub number_blank : (s : List ℕ) (n : ℕ) (r : Bool) → length s ≡ n → r ≡ all is_blank (take n s) → r ≡ true → None ≡ read_u32 (trim s)
unfolding all unsigned
number_blank s n r h e f = sym (ap read_u32 (spaces_trim s (ap (all is_blank) (sym (take_all n s (omega arith))) ∙ sym e ∙ f)))

-- an element at the front that is kept is kept at the end
kept : (p : List ℕ → Bool) (r : List (List ℕ)) (x : List ℕ) → p x ≡ false → 0 < length (drop_while p (r ++ (x ∷ [])))
unfolding drop_while
kept p [] x e = rw e (omega arith)
kept p (y ∷ r) x e = go (p y) (kept p r x e)
  where
    go : (t : Bool) → 0 < length (drop_while p (r ++ (x ∷ []))) → 0 < length (cond t (drop_while p (r ++ (x ∷ []))) (y ∷ (r ++ (x ∷ []))))
    go true h = h
    go false h = omega arith

end_kept : (p : List ℕ → Bool) (x : List ℕ) (m : List (List ℕ)) → p x ≡ false → 0 < length (drop_while_end p (x ∷ m))
end_kept p x m e = rw (length-reverse, reverse-cons) (kept p (reverse m) x e)

some_bytes : (t : List ℕ) → 0 < length (chars t) → 0 < length t
unfolding chars_from
some_bytes [] h = absurd (omega arith)
some_bytes (b ∷ t) h = omega arith

none : (t : List ℕ) → chars t ≡ [] → t ≡ []
unfolding chars_from
none [] f = refl
none (b ∷ t) f = absurd (nil≢cons (sym f))

pub blank_spaces : (s : List ℕ) (r : Bool) → r ≡ all is_blank (drop 0 s) → r ≡ true → true ≡ eqb (length (trim s)) 0
blank_spaces s r e f = sym (ap (λ l. eqb (length l) 0) (spaces_trim s (sym e ∙ f)))

-- where something is left at the front, something is left
pub blank_start : (s x : List ℕ) → x ≡ trim_start s → eqb (length x) 0 ≡ eqb (length (trim s)) 0
blank_start s x e = rw (e, trim_is s) (go (chars (trim_start s)) refl)
  where
    go : (l : List (List ℕ)) → chars (trim_start s) ≡ l → eqb (length (trim_start s)) 0 ≡ eqb (length (trim_end (trim_start s))) 0
    go [] f =
        let z : trim_start s ≡ [] = none (trim_start s) f in
        rw z (ap (λ u. eqb (length u) 0) (sym (none_end)))
    go (p ∷ m) f =
        let n : is_space p ≡ false = drop_while_head is_space (chars s) p m (sym (chars_skip is_space s) ∙ f) in
        let g : chars (trim_end (trim_start s)) ≡ drop_while_end is_space (p ∷ m) = chars_trim_end (trim_start s) ∙ ap (drop_while_end is_space) f in
        let h : 0 < length (trim_end (trim_start s)) = some_bytes (trim_end (trim_start s)) (rw g (end_kept is_space p m n)) in
        let k : 0 < length (trim_start s) = some_bytes (trim_start s) (rw f (omega arith)) in
        ne_eqb (length (trim_start s)) 0 (λ z. omega arith) ∙ sym (ne_eqb (length (trim_end (trim_start s))) 0 (λ z. omega arith))

pub blank_visible : (s : List ℕ) → 0 < length s → 0x21 ≤ get_or s 0 0 → get_or s 0 0 ≤ 0x7E → false ≡ eqb (length (trim s)) 0
blank_visible s h l m =
    sym (ne_eqb (length s) 0 (λ z. omega arith))
    ∙ blank_start s s (sym (start_stop s 0 (front_seen s h l m) refl))

-- what the test of a blank column and the number behind spaces use
pub ruleset blank_laws = (blank_visible, blank_spaces, blank_start)

pub ruleset later_laws = (ink_inside, number_here, number_none)
