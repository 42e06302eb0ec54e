-- The path record (01, Records, Path): kinds, lengths and numbers in three lent lists, of which two counts say how much is used.
use Rattle.std.specs.Prelude.{ℕ, List, [], ◌∷◌, map, Bool, cond, not, ◌||◌, length, take, drop, ltb, eqb, Option, Some, None}
use Rattle.aspath.specs.Lists.{any, sum, concat_of}

-- a segment: its kind (0 AsSequence, 1 AsSet, 2 ConfedSequence, 3 ConfedSet) and its numbers
pub record Segment : Type 0 where
  pub kind : ℕ
  pub numbers : List ℕ

-- 01, Where a call says no, 10 (01's term: spoilt): a count over its limit or its lent list, a kind over 3, lengths not summing to the number count
unfoldable pub spoilt : List ℕ → List ℕ → List ℕ → ℕ → ℕ → Bool
spoilt kinds lengths numbers s n =
    ltb 4096 s || ltb 16384 n
    || ltb (length kinds) s || ltb (length lengths) s || ltb (length numbers) n
    || any (ltb 3) (take s kinds) || not (eqb (sum (take s lengths)) n)

-- the segments in order: each takes its length of the numbers
unfoldable pub cut : List ℕ → List ℕ → List ℕ → List Segment
cut (k ∷ ks) (l ∷ ls) ns = record { kind = k; numbers = take l ns } ∷ cut ks ls (drop l ns)
cut (k ∷ ks) [] ns = []
cut [] ls ns = []

-- the segments of a record that is not spoilt
unfoldable pub segments_of : List ℕ → List ℕ → List ℕ → ℕ → ℕ → List Segment
segments_of kinds lengths numbers s n = cut (take s kinds) (take s lengths) (take n numbers)

-- what a record stands for: its segments, or nothing where it is spoilt
unfoldable pub path : List ℕ → List ℕ → List ℕ → ℕ → ℕ → Option (List Segment)
path kinds lengths numbers s n = cond (spoilt kinds lengths numbers s n) None (Some (segments_of kinds lengths numbers s n))

-- the flat layout of a list of segments
abbrev pub kinds_of : List Segment → List ℕ
kinds_of = map (λ x. x.kind)

abbrev pub lengths_of : List Segment → List ℕ
lengths_of = map (λ x. length x.numbers)

abbrev pub numbers_of : List Segment → List ℕ
numbers_of = concat_of (λ x. x.numbers)
