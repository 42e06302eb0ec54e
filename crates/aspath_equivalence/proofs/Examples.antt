-- Paths that look the same, and are not equivalent: no segments and one empty sequence; empty sequences in another order.
use mathlib.Core.Path.{◌≡◌, refl}
use mathlib.Core.List.{List, [], ◌∷◌}
use mathlib.Core.Bool.{true, false}
use Prim.Native.Nat.{ℕ}
use Rattle.sort.specs.Sort.{insert, sorted}
use Rattle.sort.specs.Dedup.{dedup, dedup_after}
use Rattle.aspath.specs.Record.{Segment}
use Rattle.aspath_normal.specs.Normal.{scan_from, scan}
use Rattle.aspath_equivalence.specs.Routing.{same_path, equivalent}

abbrev of : ℕ → List ℕ → Segment
of k l = record { kind = k; numbers = l }

none_and_empty : equivalent [] (of 0 [] ∷ []) ≡ false
unfolding scan scan_from same_path insert sorted dedup dedup_after
none_and_empty = refl

empty_in_order : equivalent (of 0 [] ∷ of 2 [] ∷ []) (of 2 [] ∷ of 0 [] ∷ []) ≡ false
unfolding scan scan_from same_path insert sorted dedup dedup_after
empty_in_order = refl

-- a set of one number is a sequence
set_of_one : equivalent (of 0 (7 ∷ 7 ∷ []) ∷ []) (of 1 (7 ∷ 7 ∷ []) ∷ []) ≡ true
unfolding scan scan_from same_path insert sorted dedup dedup_after
set_of_one = refl
