-- Laws of spaces: a text of spaces alone, and spaces behind a text, as the loops meet them and as
-- trimming does.
use Rattle.std.proofs.Common.{◌≡◌, ℕ, ◌+◌, ◌-◌, ◌*◌, ◌/◌, ◌≤◌, Option, Some, None, is_some, is_none, Bool, true, false, cond, not, ◌&&◌, List, [], ◌∷◌, ◌++◌, length, get_or, take, drop, sym, refl, ap, ◌∙◌, append_assoc, append-nil, arith, length-append, length-drop, take-append-drop, take_all, take_at, eqb-true, le-leb}
use Rattle.std.specs.List.{position, position_from}
use mathlib.Core.List.{flatten}
use Rattle.scan.proofs.ListLaws.{flatten_chunks}
use Rattle.std.specs.Simd.{first_chunks}
use Rattle.std.proofs.lemmas.Iterator.Adapters.{position_from-zero}
use lib.Seq.{get_or_at}
use Rattle.utf8.specs.Utf8.{all, within}
use Rattle.utf8.proofs.TestLaws.{both}
use Rattle.utf8.proofs.ListLaws.{all_append}
use Rattle.decimal.specs.Decimal.{is_digit}
use Rattle.decimal.proofs.Laws.{digit_low, digit_high}
use Rattle.text.specs.White.{is_white, is_space, trim_start, trim_end, trim}
use Rattle.text.proofs.TrimLaws.{trim_is, trim_order}
use Rattle.text.proofs.WhiteLaws.{front_visible, back_white, back_visible, gap_white, skip_none, start_stop, start_more, end_stop, end_more, end_end}
use Rattle.text.proofs.WhiteLaws.{front_space as space_first}
use Rattle.fields.specs.Fronts.{is_blank, DigitsAround}

-- all are spaces where no byte is none
none_from : (n : ℕ) (s : List ℕ) → is_none (position_from (λ b. not (is_blank b)) n s) ≡ all is_blank s
unfolding all
none_from n [] = refl
none_from n (b ∷ s) = go (is_blank b) (none_from (n + 1) s)
  where
    go : (t : Bool) → is_none (position_from (λ b. not (is_blank b)) (n + 1) s) ≡ all is_blank s
        → is_none (cond (not t) (Some n) (position_from (λ b. not (is_blank b)) (n + 1) s)) ≡ (t && all is_blank s)
    go true e = e
    go false e = refl

pub ink_none : (s : List ℕ) (f : Option ℕ) → f ≡ position (λ b. not (is_blank b)) s → is_none f ≡ all is_blank s
ink_none s f q = ap is_none (q ∙ position_from-zero (λ b. not (is_blank b)) s) ∙ none_from 0 s

none_is : (f : Option ℕ) (z : Bool) → is_some f ≡ not z → z ≡ is_none f
none_is None true n = refl
none_is None false n = cc
none_is (Some i) true n = cc
none_is (Some i) false n = refl

-- and 8 bytes at a time
module _ (s : List ℕ) (at : ℕ) (h : at ≤ length s) where
  abbrev left : List ℕ
  left = take (length s - at) (drop at s)

  left_all : left ≡ drop at s
  left_all = take_all (length s - at) (drop at s) (rw length-drop (omega arith))

  module _ (cs : List (List ℕ)) (q : cs ≡ first_chunks 8 (length left / 8) left) (y : Bool) (e : y ≡ all is_blank (flatten cs)) where
    parted : all is_blank (drop at s) ≡ (y && all is_blank (drop (length left / 8 * 8) left))
    parted =
        ap (all is_blank) (sym left_all ∙ sym (take-append-drop (length left / 8 * 8) left))
        ∙ all_append is_blank (take (length left / 8 * 8) left) (drop (length left / 8 * 8) left)
        ∙ rw (e, q, flatten_chunks) refl

    pub spaces_none : y ≡ false → false ≡ all is_blank (drop at s)
    spaces_none f = sym (parted ∙ rw f)

    pub spaces_left : y ≡ true → (rest : List ℕ) → rest ≡ drop (length left / 8 * 8) left → (f : Option ℕ) (z : Bool)
        → f ≡ position (λ b. not (is_blank b)) rest → is_some f ≡ not z → z ≡ all is_blank (drop at s)
    spaces_left t rest r f z u n = none_is f z n ∙ ink_none rest f u ∙ ap (all is_blank) r ∙ sym (parted ∙ rw t)

-- spaces at the front are trimmed
pub front_space : (t : List ℕ) → trim_start (32 ∷ t) ≡ trim_start t
front_space t = start_more (32 ∷ t) 1 (space_first (32 ∷ t) (omega arith) refl) (λ z. omega arith)

pub spaces_start : (s : List ℕ) → all is_blank s ≡ true → trim_start s ≡ []
unfolding all
spaces_start [] e = skip_none is_space [] (omega arith)
spaces_start (b ∷ s) e =
    let y = both (is_blank b) (all is_blank s) e in
    let z : b ≡ 32 = eqb-true b 32 y.0 in
    rw z (front_space s ∙ spaces_start s y.1)

pub none_end : trim_end [] ≡ []
none_end = end_end [] (omega arith)

pub spaces_trim : (s : List ℕ) → all is_blank s ≡ true → trim s ≡ []
spaces_trim s e = trim_is s ∙ ap trim_end (spaces_start s e) ∙ none_end

-- and at the end
end_one : (f : List ℕ) → trim_end (f ++ (32 ∷ [])) ≡ trim_end f
end_one f =
    let n : length (f ++ (32 ∷ [])) - 1 ≡ length f = rw length-append (omega arith) in
    let last : get_or (f ++ (32 ∷ [])) (length (f ++ (32 ∷ [])) - 1) 0 ≡ 32 = rw n (get_or_at f 32 [] 0 (length f) refl) in
    end_more (f ++ (32 ∷ [])) 1 (back_white (f ++ (32 ∷ [])) (rw length-append (omega arith)) (omega (arith, last)) (ap is_white last ∙ gap_white 32 refl)) (λ z. omega arith)
    ∙ ap trim_end (rw n (take_at f (32 ∷ []) (length f) refl))

spaces_behind : (w f : List ℕ) → all is_blank w ≡ true → trim_end (f ++ w) ≡ trim_end f
unfolding all
spaces_behind [] f e = ap trim_end (append-nil f)
spaces_behind (b ∷ w) f e =
    let y = both (is_blank b) (all is_blank w) e in
    let z : b ≡ 32 = eqb-true b 32 y.0 in
    rw z (ap trim_end (sym (append_assoc f (32 ∷ []) w)) ∙ spaces_behind w (f ++ (32 ∷ [])) y.1 ∙ end_one f)

-- a text with nothing but spaces from e on is trimmed as the text up to e
pub spaces_cut : (s : List ℕ) (e : ℕ) → all is_blank (drop e s) ≡ true → trim s ≡ trim (take e s)
spaces_cut s e h =
    trim_order s
    ∙ ap trim_start (ap trim_end (sym (take-append-drop e s)) ∙ spaces_behind (drop e s) (take e s) h)
    ∙ sym (trim_order (take e s))

-- a text between two digits is its own trimmed text
digit_visible : (b : ℕ) → is_digit b ≡ true → within 0x21 0x7E b ≡ true
digit_visible b h = simp (le-leb 0x21 b (omega (arith, digit_low b h)), le-leb b 0x7E (omega (arith, digit_high b h)))

pub digits_trim : (t : List ℕ) → DigitsAround t 0 (length t) → trim t ≡ t
digits_trim t d =
    trim_is t
    ∙ ap trim_end (start_stop t 0 (front_visible t d.some_byte (digit_visible (get_or t 0 0) d.first)) refl)
    ∙ end_stop t 0 (back_visible t d.some_byte (digit_visible (get_or t (length t - 1) 0) d.last)) refl

-- for all_spaces
pub ruleset all_laws = (spaces_left, spaces_none)
