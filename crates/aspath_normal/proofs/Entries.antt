-- coalesce on kinds and lengths.
use mathlib.Core.Path.{◌≡◌, refl, sym, ap}
use mathlib.Core.List.{List, [], ◌∷◌, map}
use Prim.Native.Nat.{◌+◌}
use lib.ListN.{length, length-append}
use lib.Dec.{eqb}
use Rattle.aspath.specs.Record.{Segment, kinds_of, lengths_of}
use Rattle.aspath_normal.specs.Normal.{merge_by, scan, empty, append, coalesce}
use Rattle.aspath_normal.specs.Entries.{entry_of, entry, entries, merge_entries}
use Rattle.aspath_normal.proofs.Scan.{scan_map, merge_map}

pub entries_of : (p : List Segment) → entries (kinds_of p) (lengths_of p) ≡ map entry p
unfolding entries
entries_of [] = refl
entries_of (x ∷ p) = ap (λ l. entry x ∷ l) (entries_of p)

pub entries_coalesced : (p : List Segment) → scan merge_entries (map entry p) ≡ map entry (coalesce p)
unfolding merge_entries
entries_coalesced p =
    sym
    (scan_map entry (merge_by (λ x. x.kind) empty append) merge_entries
    (merge_map entry (λ x. x.kind) (λ x. x.kind) empty (λ x. eqb x.length 0) append (λ x y. entry_of x.kind (x.length + y.length))
    (λ x. refl) (λ x. refl) (λ x y e. rw length-append))
    p)

pub entry_kinds : (p : List Segment) → map (λ x. x.kind) (map entry p) ≡ kinds_of p
entry_kinds [] = refl
entry_kinds (x ∷ p) = ap (λ l. x.kind ∷ l) (entry_kinds p)

pub entry_lengths : (p : List Segment) → map (λ x. x.length) (map entry p) ≡ lengths_of p
entry_lengths [] = refl
entry_lengths (x ∷ p) = ap (λ l. length x.numbers ∷ l) (entry_lengths p)
