-- The examples of aspath.rs, and paths of nothing but empty sequences.
use mathlib.Core.Path.{◌≡◌, refl}
use mathlib.Core.List.{List, [], ◌∷◌}
use Prim.Native.Nat.{ℕ}
use Rattle.sort.specs.Sort.{insert, sorted}
use Rattle.sort.specs.Dedup.{dedup, dedup_after}
use Rattle.aspath.specs.Record.{Segment}
use Rattle.aspath_normal.specs.Normal.{scan_from, scan, coalesce, dedup_coalesce}

abbrev of : ℕ → List ℕ → Segment
of k l = record { kind = k; numbers = l }

coalesced : coalesce (of 0 [] ∷ of 0 (1 ∷ 2 ∷ []) ∷ of 0 [] ∷ of 0 (2 ∷ []) ∷ of 1 (2 ∷ []) ∷ of 1 (5 ∷ 3 ∷ 3 ∷ 2 ∷ []) ∷ [])
    ≡ of 0 (1 ∷ 2 ∷ 2 ∷ []) ∷ of 1 (2 ∷ []) ∷ of 1 (5 ∷ 3 ∷ 3 ∷ 2 ∷ []) ∷ []
unfolding scan scan_from
coalesced = refl

normalised : dedup_coalesce (of 0 (1 ∷ 2 ∷ []) ∷ of 0 [] ∷ of 0 (2 ∷ []) ∷ of 1 (2 ∷ []) ∷ of 1 (5 ∷ 3 ∷ 3 ∷ 2 ∷ []) ∷ [])
    ≡ of 0 (1 ∷ 2 ∷ []) ∷ of 1 (2 ∷ 3 ∷ 5 ∷ []) ∷ []
unfolding scan scan_from insert sorted dedup dedup_after
normalised = refl

-- the last of them stays
last_empty : coalesce (of 0 [] ∷ of 2 [] ∷ []) ≡ of 2 [] ∷ []
unfolding scan scan_from
last_empty = refl

-- a path of one segment is coalesced to itself, and of none to none
one_segment : coalesce (of 1 (5 ∷ 5 ∷ []) ∷ []) ≡ of 1 (5 ∷ 5 ∷ []) ∷ []
unfolding scan scan_from
one_segment = refl
