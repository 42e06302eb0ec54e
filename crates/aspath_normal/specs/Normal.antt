-- AsPath::coalesce and dedup_coalesce (aspath.rs), said of a path's segments.
use Rattle.std.specs.Prelude.{ℕ, ◌-◌, List, [], ◌∷◌, ◌++◌, map, Bool, cond, not, ◌&&◌, ◌||◌, length, eqb}
use Rattle.std.specs.Prelude.{Option, Some, None}
use Rattle.sort.specs.Sort.{sorted}
use Rattle.sort.specs.Dedup.{dedup}
use Rattle.aspath.specs.Record.{Segment}

-- of the four kinds, 0 and 2 are sequences, 1 and 3 sets
abbrev pub is_sequence : ℕ → Bool
is_sequence k = eqb k 0 || eqb k 2

-- merge_in_place: what x and the segment y behind it become, if they become one. Two sequences of one kind are joined, and an empty sequence
-- gives way to the other
abbrev pub merge_by : {X : Type 0} → (X → ℕ) → (X → Bool) → (X → X → X) → X → X → Option X
merge_by kind empty join x y =
    cond (is_sequence (kind x) && eqb (kind x) (kind y)) (Some (join x y))
    (cond (is_sequence (kind x) && empty x) (Some y) (cond (is_sequence (kind y) && empty y) (Some x) None))

-- the scan of coalesce: x is the segment at end_index, and the others have not been scanned
unfoldable pub scan_from : {X : Type 0} → (X → X → Option X) → X → List X → List X
scan_from merge x [] = x ∷ []
scan_from merge x (y ∷ l) = elim (merge x y) [ None ↦ x ∷ scan_from merge y l | Some z ↦ scan_from merge z l ]

unfoldable pub scan : {X : Type 0} → (X → X → Option X) → List X → List X
scan merge [] = []
scan merge (x ∷ l) = scan_from merge x l

abbrev pub empty : Segment → Bool
empty x = eqb (length x.numbers) 0

abbrev pub append : Segment → Segment → Segment
append x y = record { kind = x.kind; numbers = x.numbers ++ y.numbers }

-- AsPath::coalesce
abbrev pub coalesce : List Segment → List Segment
coalesce = scan (merge_by (λ x. x.kind) empty append)

-- AsPathSegment::dedup, in three steps: a set is sorted; repeats next to each other go; a set of one number becomes a sequence
abbrev pub sort_set : Segment → Segment
sort_set x = record { kind = x.kind; numbers = cond (is_sequence x.kind) x.numbers (sorted x.numbers) }

abbrev pub dedup_numbers : Segment → Segment
dedup_numbers x = record { kind = x.kind; numbers = dedup x.numbers }

abbrev pub single_kind : ℕ → ℕ → ℕ
single_kind k l = cond (not (is_sequence k) && eqb l 1) (k - 1) k

abbrev pub single_set : Segment → Segment
single_set x = record { kind = single_kind x.kind (length x.numbers); numbers = x.numbers }

abbrev pub dedup_segment : Segment → Segment
dedup_segment x = single_set (dedup_numbers (sort_set x))

-- AsPath::dedup_coalesce: each segment by itself, then the scan, in which a join removes repeats at its seam
abbrev pub dedup_coalesce : List Segment → List Segment
dedup_coalesce p = scan (merge_by (λ x. x.kind) empty (λ x y. dedup_numbers (append x y))) (map dedup_segment p)
