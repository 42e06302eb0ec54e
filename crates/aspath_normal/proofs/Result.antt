-- The record that dedup_coalesce leaves: unspoilt, and of the path's normal form, whatever stands behind it in the lists.
use mathlib.Core.Path.{◌≡◌, refl, ap}
use mathlib.Core.List.{List, [], ◌∷◌, ◌++◌, map, append_assoc}
use mathlib.Core.Bool.{Bool, true, false, cond, not, ◌&&◌, ◌||◌}
use Rattle.std.proofs.Common.{Option, Some, None}
use Prim.Native.Nat.{ℕ, suc, ◌-◌, ◌≤◌}
use native.Mathlib.Omega.{arith}
use lib.ListN.{length, drop, replicate, length-append, length-map}
use lib.Dec.{ltb, eqb}
use borrow.Author.Tests.{ltb-false, le-ltb}
use Rattle.sort.specs.Sort.{sorted}
use Rattle.sort.specs.Dedup.{dedup}
use Rattle.sort.proofs.Sorting.{length_sorted}
use Rattle.sort.proofs.Dedup.{dedup_length}
use Rattle.aspath.specs.Lists.{fold_map, any}
use Rattle.aspath.specs.Record.{Segment, path, kinds_of, lengths_of, numbers_of}
use Rattle.aspath.proofs.Record.{flat_path}
use Rattle.aspath_normal.specs.Normal.{is_sequence, scan_from, scan, coalesce, sort_set, dedup_numbers, single_kind, dedup_segment, dedup_coalesce}
use Rattle.aspath_normal.specs.Layout.{in_place}
use Rattle.aspath_normal.proofs.Scan.{scan_one, scan_two}
use Rattle.aspath_normal.proofs.Calls.{coalesce_numbers}
use Rattle.aspath_normal.proofs.Normal.{All, scan_all, merge_deduped, merged_cases, Known}
use Rattle.aspath_normal.proofs.Join.{normal_is}

-- the test of the kinds
pub known_all : (p : List Segment) → any (ltb 3) (kinds_of p) ≡ false → All Known p
unfolding fold_map
known_all [] e = tt
known_all (x ∷ p) e = go (ltb 3 x.kind) refl e (known_all p)
  where
    go : (t : Bool) → ltb 3 x.kind ≡ t → t || any (ltb 3) (kinds_of p) ≡ false → (any (ltb 3) (kinds_of p) ≡ false → All Known p) → All Known (x ∷ p)
    go true f g h = let z : ◌≡◌ {A = ℕ} 0 1 = cc in absurd (omega arith)
    go false f g h = (ltb-false 3 x.kind f, h g)

all_known : (p : List Segment) → All Known p → any (ltb 3) (kinds_of p) ≡ false
unfolding fold_map
all_known [] a = refl
all_known (x ∷ p) a = simp (le-ltb 3 x.kind a.0, all_known p a.1)

-- no step makes another kind, a further segment or a further number
single_known : (k l : ℕ) → k ≤ 3 → single_kind k l ≤ 3
single_known k l h = go (not (is_sequence k) && eqb l 1)
  where
    go : (t : Bool) → cond t (k - 1) k ≤ 3
    go true = omega arith
    go false = h

known_map : (p : List Segment) → All Known p → All Known (map dedup_segment p)
known_map [] a = tt
known_map (x ∷ p) a = (single_known x.kind (length (dedup (sort_set x).numbers)) a.0, known_map p a.1)

pub normal_known : (p : List Segment) → All Known p → All Known (dedup_coalesce p)
normal_known p a =
    scan_all merge_deduped Known (λ x y z e b c. merged_cases Known x y z e (λ s. b) b c) (map dedup_segment p) (known_map p a)

scan_from_length : {X : Type 0} (m : X → X → Option X) (x : X) (l : List X) → length (scan_from m x l) ≤ suc (length l)
unfolding scan_from
scan_from_length m x [] = omega arith
scan_from_length {X} m x (y ∷ l) = go (m x y) refl (λ z. scan_from_length m z l)
  where
    go : (o : Option X) → m x y ≡ o → ((z : X) → length (scan_from m z l) ≤ suc (length l)) → length (scan_from m x (y ∷ l)) ≤ suc (suc (length l))
    go (Some z) e f = rw (scan_one m x y l z e) (omega (arith, f z))
    go None e f = rw (scan_two m x y l e) (omega (arith, f y))

scan_length : {X : Type 0} (m : X → X → Option X) (l : List X) → length (scan m l) ≤ length l
unfolding scan
scan_length m [] = omega arith
scan_length m (x ∷ l) = scan_from_length m x l

pub normal_length : (p : List Segment) → length (dedup_coalesce p) ≤ length p
normal_length p = omega (arith, scan_length merge_deduped (map dedup_segment p), length-map p dedup_segment)

fewer : (f : Segment → Segment) → ((x : Segment) → length (f x).numbers ≤ length x.numbers) → (p : List Segment) → length (numbers_of (map f p)) ≤ length (numbers_of p)
unfolding fold_map
fewer f h [] = omega arith
fewer f h (x ∷ p) =
    omega (
      arith,
      h x,
      fewer f h p,
      length-append (f x).numbers (numbers_of (map f p)),
      length-append x.numbers (numbers_of p),
    )

pub normal_numbers : (p : List Segment) → length (numbers_of (dedup_coalesce p)) ≤ length (numbers_of p)
normal_numbers p =
    rw (normal_is p)
    (omega (
      arith,
      fewer dedup_numbers (λ x. dedup_length x.numbers) (coalesce (map dedup_segment p)),
      ap length (coalesce_numbers (map dedup_segment p)),
      fewer dedup_segment (λ x. omega (arith, dedup_length (sort_set x).numbers, sorted_long (is_sequence x.kind) x.numbers)) p,
    ))
  where
    sorted_long : (b : Bool) (l : List ℕ) → length (cond b l (sorted l)) ≡ length l
    sorted_long true l = refl
    sorted_long false l = length_sorted l

-- a path laid out in place is read back by its counts
in_place_path : (q : List Segment) → length q ≤ 4096 → length (numbers_of q) ≤ 16384 → All Known q → (s n : ℕ) (ks ls ns : List ℕ)
    → path (in_place s (kinds_of q) ks) (in_place s (lengths_of q) ls) (in_place n (numbers_of q) ns) (length q) (length (numbers_of q)) ≡ Some q
in_place_path q h i a s n ks ls ns =
    rw (
      append_assoc (kinds_of q) (replicate (s - length (kinds_of q)) 0) (drop s ks),
      append_assoc (lengths_of q) (replicate (s - length (lengths_of q)) 0) (drop s ls),
      append_assoc (numbers_of q) (replicate (n - length (numbers_of q)) 0) (drop n ns),
    )
    (flat_path q (replicate (s - length (kinds_of q)) 0 ++ drop s ks) (replicate (s - length (lengths_of q)) 0 ++ drop s ls)
    (replicate (n - length (numbers_of q)) 0 ++ drop n ns) h i (all_known q a))

-- so the lists hold the normal form, by the new counts
pub normal_record : (p : List Segment) → length p ≤ 4096 → length (numbers_of p) ≤ 16384 → All Known p → (s n : ℕ) (ks ls ns : List ℕ)
    → path (in_place s (kinds_of (dedup_coalesce p)) ks) (in_place s (lengths_of (dedup_coalesce p)) ls) (in_place n (numbers_of (dedup_coalesce p)) ns)
    (length (dedup_coalesce p)) (length (numbers_of (dedup_coalesce p)))
    ≡ Some (dedup_coalesce p)
normal_record p h i a =
    in_place_path (dedup_coalesce p) (omega (arith, normal_length p)) (omega (arith, normal_numbers p)) (normal_known p a)
