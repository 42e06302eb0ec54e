-- AsPath::has_equivalent_routing (aspath.rs), said of two paths' segments.
use Rattle.std.specs.Prelude.{ℕ, List, [], ◌∷◌, Bool, true, false, ◌&&◌, eqb, Option, Some, None, Result, Ok, Err}
use Rattle.std.specs.Str.{bytes_eq}
use Rattle.aspath.specs.declared.Spoilt.{Spoilt}
use Rattle.aspath.specs.Queries.{spoilt_record}
use Rattle.aspath.specs.Record.{Segment}
use Rattle.aspath_normal.specs.Normal.{sort_set, dedup_coalesce}
use Rattle.aspath_normal.specs.Layout.{counts_of}
use Rattle.aspath_equivalence.specs.declared.Equivalence.{Equivalence}

-- the library's comparison of two lists of numbers, of any width
abbrev pub same_numbers : List ℕ → List ℕ → Bool
same_numbers = bytes_eq

-- AsPathSegment's ==: one kind, and the same numbers; the order of a set's numbers does not count
abbrev pub same_segment : Segment → Segment → Bool
same_segment x y = eqb x.kind y.kind && same_numbers (sort_set x).numbers (sort_set y).numbers

unfoldable pub same_path : List Segment → List Segment → Bool
same_path [] [] = true
same_path [] (y ∷ q) = false
same_path (x ∷ p) [] = false
same_path (x ∷ p) (y ∷ q) = same_segment x y && same_path p q

-- AsPath::has_equivalent_routing
abbrev pub equivalent : List Segment → List Segment → Bool
equivalent p q = same_path (dedup_coalesce p) (dedup_coalesce q)

-- a value that is there only if another is too
unfoldable pub both : {A : Type 0} → Option A → Option A → Option A
both (Some a) (Some b) = Some a
both (Some a) None = None
both None b = None

-- of two paths: whether they are equivalent, and the counts of both new records; one spoilt record refuses both
unfoldable pub equivalence : Option (List Segment) → Option (List Segment) → Result Equivalence Spoilt
equivalence (Some p) (Some q) =
    Ok record { equivalent = equivalent p q; first = counts_of (dedup_coalesce p); second = counts_of (dedup_coalesce q) }
equivalence (Some p) None = Err spoilt_record
equivalence None q = Err spoilt_record

-- 01's number of a refusal; 0 is an answer
abbrev pub equivalence_number : Result Equivalence Spoilt → ℕ
equivalence_number (Ok e) = 0
equivalence_number (Err e) = 10
