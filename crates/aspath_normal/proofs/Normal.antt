-- The normal form.
--     normal_sorted      its sets are in rising order
--     normal_apart       no two neighbours merge: no two sequences of one kind stand next to each other, and an empty sequence stands alone
--     normal_segments    each segment is a sequence without repeats next to each other, or a set in rising order of no or several numbers, without repeats
--     normal_twice       normalising a second time changes nothing
use mathlib.Core.Path.{◌≡◌, refl, sym, ap, ap₂, subst, ◌∙◌}
use mathlib.Core.List.{List, [], ◌∷◌, ◌++◌, map}
use mathlib.Core.Bool.{Bool, true, false, cond, ◌&&◌}
use Rattle.std.proofs.Common.{Option, Some, None}
use Prim.Native.Nat.{ℕ, zero, suc, ◌≤◌}
use native.Mathlib.Omega.{arith}
use lib.ListN.{length, length-append}
use lib.Dec.{eqb}
use borrow.Author.Tests.{eqb-false, ne_eqb}
use Rattle.sort.specs.Sort.{sorted}
use Rattle.sort.specs.Dedup.{dedup}
use Rattle.sort.proofs.Sorting.{rising_sorted, sorted_rising}
use Rattle.sort.proofs.Dedup.{rising_dedup, dedup_twice, dedup_empty}
use Rattle.aspath.specs.Record.{Segment}
use Rattle.aspath_normal.specs.Normal.{is_sequence, merge_by, scan_from, scan, empty, append, sort_set, dedup_numbers, single_kind, dedup_segment, dedup_coalesce}
use Rattle.aspath_normal.proofs.Scan.{scan_one, scan_two, Apart, Stable, merge_stable, scan_apart, scan_twice}

-- P of every element
abbrev pub All : {X : Type 0} → (X → Type 0) → List X → Type 0
All P [] = Unit {0}
All P (x ∷ l) = P x × All P l

-- what merging keeps, the scan keeps
module _ {X : Type 0} (m : X → X → Option X) (P : X → Type 0) (c : (x y z : X) → m x y ≡ Some z → P x → P y → P z) where
  pub scan_from_all : (x : X) (l : List X) → P x → All P l → All P (scan_from m x l)
  unfolding scan_from
  scan_from_all x [] a b = (a, tt)
  scan_from_all x (y ∷ l) a b = go (m x y) refl (scan_from_all y l b.0 b.1) (λ z d. scan_from_all z l d b.1)
    where
      go : (o : Option X) → m x y ≡ o → All P (scan_from m y l) → ((z : X) → P z → All P (scan_from m z l)) → All P (scan_from m x (y ∷ l))
      go (Some z) e f g = rw (scan_one m x y l z e) (g z (c x y z e a b.0))
      go None e f g = rw (scan_two m x y l e) (a, f)

  pub scan_all : (l : List X) → All P l → All P (scan m l)
  unfolding scan
  scan_all [] a = tt
  scan_all (x ∷ l) a = scan_from_all x l a.0 a.1

map_all : {X Y : Type 0} (f : X → Y) (P : Y → Type 0) → ((x : X) → P (f x)) → (l : List X) → All P (map f l)
map_all f P h [] = tt
map_all f P h (x ∷ l) = (h x, map_all f P h l)

-- what merging two segments gives is a sequence that joins two of one kind, or one of the two
abbrev pub merge_deduped : Segment → Segment → Option Segment
merge_deduped = merge_by (λ x. x.kind) empty (λ x y. dedup_numbers (append x y))

pub merged_cases : (P : Segment → Type 0) (x y z : Segment) → merge_deduped x y ≡ Some z
    → (is_sequence x.kind ≡ true → P (dedup_numbers (append x y))) → P x → P y → P z
merged_cases P x y z e s a b =
    go (is_sequence x.kind) refl (eqb x.kind y.kind) (is_sequence x.kind && empty x) (is_sequence y.kind && empty y) e
  where
    go : (p : Bool) → is_sequence x.kind ≡ p → (k q r : Bool) → cond (p && k) (Some (dedup_numbers (append x y))) (cond q (Some y) (cond r (Some x) None)) ≡ Some z → P z
    go true f true q r g = let h : dedup_numbers (append x y) ≡ z = cc in subst P h (s f)
    go true f false true r g = let h : y ≡ z = cc in subst P h b
    go true f false false true g = let h : x ≡ z = cc in subst P h a
    go true f false false false g = let z : ◌≡◌ {A = ℕ} 0 1 = cc in absurd (omega arith)
    go false f k true r g = let h : y ≡ z = cc in subst P h b
    go false f k false true g = let h : x ≡ z = cc in subst P h a
    go false f k false false g = let z : ◌≡◌ {A = ℕ} 0 1 = cc in absurd (omega arith)

-- sorting changes no sequence, and no set that is in rising order
abbrev pub Sorted : Segment → Type 0
Sorted x = sort_set x ≡ x

abbrev of : ℕ → List ℕ → Segment
of k n = record { kind = k; numbers = n }

rising_set : (x : Segment) → sorted x.numbers ≡ x.numbers → Sorted x
rising_set x e = ap (of x.kind) (go (is_sequence x.kind))
  where
    go : (b : Bool) → cond b x.numbers (sorted x.numbers) ≡ x.numbers
    go true = refl
    go false = e

sequence_sorted : (x : Segment) → is_sequence x.kind ≡ true → Sorted x
sequence_sorted x e = ap (of x.kind) (rw e)

dedup_sorted : (x : Segment) → Sorted (dedup_segment x)
dedup_sorted x = go (is_sequence x.kind) refl
  where
    go : (b : Bool) → is_sequence x.kind ≡ b → Sorted (dedup_segment x)
    go true e = sequence_sorted (dedup_segment x) (rw e e)
    go false e =
        rising_set (dedup_segment x)
        (rw e (sorted_rising (dedup (sorted x.numbers)) (rising_dedup (sorted x.numbers) (rising_sorted x.numbers))))

pub normal_sorted : (p : List Segment) → All Sorted (dedup_coalesce p)
normal_sorted p =
    scan_all merge_deduped Sorted
    (λ x y z e a b. merged_cases Sorted x y z e (λ s. sequence_sorted (dedup_numbers (append x y)) s) a b)
    (map dedup_segment p) (map_all dedup_segment Sorted dedup_sorted p)

-- repeats at a seam do not make an empty sequence
deduped_full : (x y : Segment) → empty x ≡ false → empty (dedup_numbers (append x y)) ≡ false
deduped_full x y e =
    dedup_empty (x.numbers ++ y.numbers)
    ∙ ne_eqb (length (x.numbers ++ y.numbers)) 0
    (λ f. eqb-false (length x.numbers) 0 e (omega (arith, f, length-append x.numbers y.numbers)))

pub merge_deduped_stable : Stable merge_deduped
merge_deduped_stable = merge_stable (λ x. x.kind) empty (λ x y. dedup_numbers (append x y)) (λ x y. refl) deduped_full

-- no two neighbours of the normal form merge (`merge_none` says what that means)
pub normal_apart : (p : List Segment) → Apart merge_deduped (dedup_coalesce p)
normal_apart p = scan_apart merge_deduped merge_deduped_stable (map dedup_segment p)

-- a kind of 01, and a segment that is in its normal form: a set in rising order, no repeats, no set of one number
abbrev pub Known : Segment → Type 0
Known x = x.kind ≤ 3

abbrev pub Normal : Segment → Type 0
Normal x = dedup_segment x ≡ x

-- a sequence without repeats is normal
normal_sequence : (k : ℕ) (l : List ℕ) → is_sequence k ≡ true → Normal (of k (dedup l))
normal_sequence k l e = rw (e, dedup_twice l)

-- what `dedup_segment` makes of a segment is normal
normal_set : (k n : ℕ) (l : List ℕ) → sorted l ≡ l → dedup l ≡ l → length l ≡ n → is_sequence k ≡ false → (k ≤ 3) → Normal (of (single_kind k n) l)
normal_set zero n l r d h e b = let z : ◌≡◌ {A = ℕ} 0 1 = cc in absurd (omega arith)
normal_set (suc zero) n l r d h e b = go (eqb n 1) refl
  where
    go : (t : Bool) → eqb n 1 ≡ t → Normal (of (cond t 0 1) l)
    go true f = rw d
    go false f = rw (r, d, h, f)
normal_set (suc (suc zero)) n l r d h e b = let z : ◌≡◌ {A = ℕ} 0 1 = cc in absurd (omega arith)
normal_set (suc (suc (suc zero))) n l r d h e b = go (eqb n 1) refl
  where
    go : (t : Bool) → eqb n 1 ≡ t → Normal (of (cond t 2 3) l)
    go true f = rw d
    go false f = rw (r, d, h, f)
normal_set (suc (suc (suc (suc k)))) n l r d h e b = absurd (omega arith)

dedup_normal : (x : Segment) → Known x → Normal (dedup_segment x)
dedup_normal x b = go (is_sequence x.kind) refl
  where
    go : (t : Bool) → is_sequence x.kind ≡ t → Normal (dedup_segment x)
    go true e = rw e (normal_sequence x.kind x.numbers e)
    go false e =
        let q : (sort_set x).numbers ≡ sorted x.numbers = rw e in
        subst (λ n. Normal (of (single_kind x.kind (length (dedup n))) (dedup n))) (sym q)
        (normal_set x.kind (length (dedup (sorted x.numbers))) (dedup (sorted x.numbers))
        (sorted_rising (dedup (sorted x.numbers)) (rising_dedup (sorted x.numbers) (rising_sorted x.numbers)))
        (dedup_twice (sorted x.numbers)) refl e b)

known_map : (p : List Segment) → All Known p → All Normal (map dedup_segment p)
known_map [] a = tt
known_map (x ∷ p) a = (dedup_normal x a.0, known_map p a.1)

pub normal_segments : (p : List Segment) → All Known p → All Normal (dedup_coalesce p)
normal_segments p a =
    scan_all merge_deduped Normal
    (λ x y z e b c. merged_cases Normal x y z e (λ s. normal_sequence x.kind (x.numbers ++ y.numbers) s) b c)
    (map dedup_segment p) (known_map p a)

pub all_same : (f : Segment → Segment) (l : List Segment) → All (λ x. f x ≡ x) l → map f l ≡ l
all_same f [] a = refl
all_same f (x ∷ l) a = ap₂ (λ y t. y ∷ t) a.0 (all_same f l a.1)

-- normalising a second time changes nothing
pub normal_twice : (p : List Segment) → All Known p → dedup_coalesce (dedup_coalesce p) ≡ dedup_coalesce p
normal_twice p a =
    ap (scan merge_deduped) (all_same dedup_segment (dedup_coalesce p) (normal_segments p a))
    ∙ scan_twice merge_deduped merge_deduped_stable (map dedup_segment p)
