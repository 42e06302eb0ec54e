-- The steps of dedup_coalesce, on segments: what each keeps, and that they come to dedup_coalesce.
--     steps_are    repeats may be removed before the scan and after it, instead of at its seams
use mathlib.Core.Path.{◌≡◌, refl, ap, ap₂, ◌∙◌}
use mathlib.Core.List.{List, [], ◌∷◌, ◌++◌, map}
use mathlib.Core.Bool.{Bool, true, false, cond}
use Prim.Native.Nat.{ℕ}
use lib.ListN.{length}
use lib.Seq.{take_at, drop_at}
use Rattle.sort.specs.Sort.{sorted}
use Rattle.sort.specs.Dedup.{dedup}
use Rattle.sort.proofs.Sorting.{length_sorted}
use Rattle.sort.proofs.Dedup.{dedup_twice, dedup_append, dedup_empty}
use Rattle.aspath.specs.Lists.{fold_map}
use Rattle.aspath.specs.Record.{Segment, kinds_of, lengths_of, numbers_of}
use Rattle.aspath_normal.specs.Normal.{is_sequence, merge_by, scan, empty, append, coalesce, sort_set, dedup_numbers, single_kind, single_set, dedup_segment, dedup_coalesce}
use Rattle.aspath_normal.specs.Layout.{padded}
use Rattle.aspath_normal.specs.Entries.{entries}
use Rattle.aspath_normal.specs.Parts.{parts, concat, Deduped}
use Rattle.aspath_normal.proofs.Scan.{scan_map, merge_map}

-- what stands in the three lists, after a step on each segment
module _ (f : Segment → Segment) where
  module _ (e : (x : Segment) → (f x).kind ≡ x.kind) where
    kinds_kept : (p : List Segment) → kinds_of (map f p) ≡ kinds_of p
    kinds_kept [] = refl
    kinds_kept (x ∷ p) = ap₂ (λ k l. k ∷ l) (e x) (kinds_kept p)

  module _ (e : (x : Segment) → length (f x).numbers ≡ length x.numbers) where
    lengths_kept : (p : List Segment) → lengths_of (map f p) ≡ lengths_of p
    lengths_kept [] = refl
    lengths_kept (x ∷ p) = ap₂ (λ k l. k ∷ l) (e x) (lengths_kept p)

  module _ (e : (x : Segment) → (f x).numbers ≡ x.numbers) where
    numbers_kept : (p : List Segment) → numbers_of (map f p) ≡ numbers_of p
    unfolding fold_map
    numbers_kept [] = refl
    numbers_kept (x ∷ p) = ap₂ (λ k l. k ++ l) (e x) (numbers_kept p)

pub sorted_kinds : (p : List Segment) → kinds_of (map sort_set p) ≡ kinds_of p
sorted_kinds = kinds_kept sort_set (λ x. refl)

pub sorted_lengths : (p : List Segment) → lengths_of (map sort_set p) ≡ lengths_of p
sorted_lengths = lengths_kept sort_set (λ x. go (is_sequence x.kind) x.numbers)
  where
    go : (b : Bool) (l : List ℕ) → length (cond b l (sorted l)) ≡ length l
    go true l = refl
    go false l = length_sorted l

pub deduped_kinds : (p : List Segment) → kinds_of (map dedup_numbers p) ≡ kinds_of p
deduped_kinds = kinds_kept dedup_numbers (λ x. refl)

pub single_lengths : (p : List Segment) → lengths_of (map single_set p) ≡ lengths_of p
single_lengths = lengths_kept single_set (λ x. refl)

pub single_numbers : (p : List Segment) → numbers_of (map single_set p) ≡ numbers_of p
single_numbers = numbers_kept single_set (λ x. refl)

pub single_kinds : (p : List Segment) → map (λ x. single_kind x.kind x.length) (entries (kinds_of p) (lengths_of p)) ≡ kinds_of (map single_set p)
unfolding entries
single_kinds [] = refl
single_kinds (x ∷ p) = ap (λ l. single_kind x.kind (length x.numbers) ∷ l) (single_kinds p)

-- the parts of a record are its segments' numbers
parts_are : (p : List Segment) → parts (lengths_of p) (numbers_of p) ≡ map (λ x. x.numbers) p
unfolding parts fold_map
parts_are [] = refl
parts_are (x ∷ p) =
    ap₂ (λ a b. a ∷ b) (take_at x.numbers (numbers_of p) (length x.numbers) refl)
    (ap (parts (lengths_of p)) (drop_at x.numbers (numbers_of p) (length x.numbers) refl) ∙ parts_are p)

dedup_parts : (p : List Segment) → concat (map dedup (map (λ x. x.numbers) p)) ≡ numbers_of (map dedup_numbers p)
unfolding fold_map
dedup_parts [] = refl
dedup_parts (x ∷ p) = ap (λ l. dedup x.numbers ++ l) (dedup_parts p)

dedup_lengths : (p : List Segment) → map length (map dedup (map (λ x. x.numbers) p)) ≡ lengths_of (map dedup_numbers p)
dedup_lengths [] = refl
dedup_lengths (x ∷ p) = ap (λ l. length (dedup x.numbers) ∷ l) (dedup_lengths p)

module _ (p : List Segment) (ls ns ls' ns' : List ℕ) (r : ℕ) (e : ls ≡ lengths_of p) (f : ns ≡ numbers_of p) (d : Deduped ls ns ls' ns' r) where
  are : parts ls ns ≡ map (λ x. x.numbers) p
  are = ap₂ parts e f ∙ parts_are p

  pub deduped_count : r ≡ length (numbers_of (map dedup_numbers p))
  deduped_count = d.count ∙ ap (λ q. length (concat (map dedup q))) are ∙ ap length (dedup_parts p)

  pub deduped_lengths : ls' ≡ lengths_of (map dedup_numbers p)
  deduped_lengths = d.lengths ∙ ap (λ q. map length (map dedup q)) are ∙ dedup_lengths p

  pub deduped_numbers : ns' ≡ padded (length ns) (numbers_of (map dedup_numbers p))
  deduped_numbers = d.numbers ∙ ap (λ q. padded (length ns) (concat (map dedup q))) are ∙ ap (padded (length ns)) (dedup_parts p)

-- removing repeats goes along with the scan
pub scan_deduped : (p : List Segment)
    → map dedup_numbers (coalesce p) ≡ scan (merge_by (λ x. x.kind) empty (λ x y. dedup_numbers (append x y))) (map dedup_numbers p)
scan_deduped =
    scan_map dedup_numbers (merge_by (λ x. x.kind) empty append) (merge_by (λ x. x.kind) empty (λ x y. dedup_numbers (append x y)))
    (merge_map dedup_numbers (λ x. x.kind) (λ x. x.kind) empty empty append (λ x y. dedup_numbers (append x y)) (λ x. refl)
    (λ x. dedup_empty x.numbers) (λ x y e. rw (dedup_append x.numbers y.numbers)))

three_steps : (p : List Segment) → map single_set (map dedup_numbers (map sort_set p)) ≡ map dedup_segment p
three_steps [] = refl
three_steps (x ∷ p) = ap (λ l. dedup_segment x ∷ l) (three_steps p)

pub once_is_enough : (p : List Segment) → map dedup_numbers (map dedup_segment p) ≡ map dedup_segment p
once_is_enough [] = refl
once_is_enough (x ∷ p) =
    ap₂ (λ n l. record { kind = (dedup_segment x).kind; numbers = n } ∷ l) (dedup_twice (sort_set x).numbers) (once_is_enough p)

pub steps_are : (p : List Segment) → map dedup_numbers (coalesce (map single_set (map dedup_numbers (map sort_set p)))) ≡ dedup_coalesce p
steps_are p = rw (three_steps p) (scan_deduped (map dedup_segment p) ∙ rw (once_is_enough p))
