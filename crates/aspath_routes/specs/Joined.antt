-- AsPath::to_u32_vec_opt: a path's numbers as one list, where it is that simple.
use Rattle.std.specs.Prelude.{ℕ, ◌≡◌, List, [], ◌∷◌, ◌++◌, Bool, true, cond, ◌&&◌, ◌||◌, length, leb, eqb, Option, Some, None, Result, Ok, Err}
use Rattle.output.specs.Output.{front}
use Rattle.aspath.specs.Lists.{fold_map, concat_of}
use Rattle.aspath.specs.Record.{Segment}
use Rattle.aspath.specs.Segments.{segments_left}
use Rattle.aspath_routes.specs.Runs.{runs}
use Rattle.aspath_routes.specs.declared.Numbers.{Numbers}
use Rattle.aspath_routes.specs.declared.NumbersError.{NumbersError}
use Rattle.aspath_routes.specs.declared.NumbersError.TheVariants.{FewPlaces, Spoilt}

-- whether a segment of this kind and length is a list of numbers: a sequence, or a set of one
abbrev pub simple : ℕ → ℕ → Bool
simple k l = eqb k 0 || (eqb k 1 && eqb l 1)

abbrev pub all_simple : List Segment → Bool
all_simple = fold_map ◌&&◌ true (λ x. simple x.kind (length x.numbers))

-- the numbers of all segments; repeats go within a segment only
abbrev pub joined : Bool → List Segment → List ℕ
joined dedup = concat_of (λ x. runs dedup x.numbers)

-- those that an iterator has left
abbrev pub numbers_left : Numbers → List ℕ
numbers_left j = runs j.dedup j.numbers.now ++ joined j.dedup (segments_left j.segments)

-- a list that is empty is none
abbrev pub some_numbers : List ℕ → Option (List ℕ)
some_numbers [] = None
some_numbers (a ∷ l) = Some (a ∷ l)

unfoldable pub to_u32_vec : Bool → List Segment → Option (List ℕ)
to_u32_vec dedup p = cond (all_simple p) (some_numbers (joined dedup p)) None

-- the answer for so many places: spoilt first, then too few places; an answer of none needs no place
abbrev pub vec_answer : Bool → Option (List Segment) → List ℕ → Result (Option ℕ) NumbersError
vec_answer dedup None out = Err Spoilt
vec_answer dedup (Some p) out = told (to_u32_vec dedup p)
  where
    told : Option (List ℕ) → Result (Option ℕ) NumbersError
    told None = Ok None
    told (Some v) = cond (leb (length v) (length out)) (Ok (Some (length v))) (Err FewPlaces)

-- the places afterwards: where they suffice, the numbers answered, and behind them what stood there
abbrev pub vec_places : Bool → Option (List Segment) → List ℕ → List ℕ
vec_places dedup None out = out
vec_places dedup (Some p) out = kept (to_u32_vec dedup p)
  where
    kept : Option (List ℕ) → List ℕ
    kept None = out
    kept (Some v) = front v out

-- what the call answers, and what it leaves in the places
pub record Answered (dedup : Bool) (p : Option (List Segment)) (out : List ℕ) (r : Result (Option ℕ) NumbersError) (new : List ℕ) : Type 0 where
  pub told : r ≡ vec_answer dedup p out
  pub left : new ≡ vec_places dedup p out

-- 01's numbers of the refusals; 0 is an answer
abbrev pub vec_number : Result (Option ℕ) NumbersError → ℕ
vec_number (Ok n) = 0
vec_number (Err FewPlaces) = 7
vec_number (Err Spoilt) = 10
