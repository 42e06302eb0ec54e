-- From a lent record to its segments and back.
use mathlib.Core.Path.{◌≡◌, refl, sym, ap, ◌∙◌}
use mathlib.Core.List.{List, [], ◌∷◌, ◌++◌, map, append_assoc, append-nil}
use mathlib.Core.Bool.{Bool, true, false, cond, ◌&&◌}
use Rattle.std.proofs.Common.{Option, Some, None}
use Prim.Native.Nat.{ℕ}
use native.Mathlib.Omega.{arith}
use lib.ListN.{length}
use lib.Dec.{eqb}
use borrow.Author.Tests.{eqb-true}
use Rattle.aspath.specs.Lists.{fold_map}
use Rattle.aspath.specs.Record.{Segment, kinds_of, lengths_of, numbers_of}
use Rattle.aspath.proofs.Lists.{and_both}
use Rattle.aspath_normal.specs.Normal.{is_sequence, merge_by, scan_from, scan, empty, append, coalesce}
use Rattle.aspath_normal.specs.Entries.{entry, coalesced_entries}
use Rattle.aspath_normal.proofs.Scan.{scan_one, scan_two}
use Rattle.aspath_normal.proofs.Entries.{entries_of, entries_coalesced}

-- coalesce moves no number
pub no_numbers : (x : Segment) → empty x ≡ true → x.numbers ≡ []
no_numbers x e = go x.numbers (eqb-true (length x.numbers) 0 e)
  where
    go : (l : List ℕ) → length l ≡ 0 → l ≡ []
    go [] f = refl
    go (y ∷ l) f = absurd (omega arith)

merged_numbers : (x y z : Segment) → merge_by (λ x. x.kind) empty append x y ≡ Some z → z.numbers ≡ x.numbers ++ y.numbers
merged_numbers x y z =
    go (is_sequence x.kind && eqb x.kind y.kind) (is_sequence x.kind && empty x) (is_sequence y.kind && empty y) refl refl
  where
    go : (p q r : Bool) → is_sequence x.kind && empty x ≡ q → is_sequence y.kind && empty y ≡ r
        → cond p (Some (append x y)) (cond q (Some y) (cond r (Some x) None)) ≡ Some z → z.numbers ≡ x.numbers ++ y.numbers
    go true q r a b e = let f : append x y ≡ z = cc in ap (λ (t : Segment). t.numbers) (sym f)
    go false true r a b e =
        let f : y ≡ z = cc in
        rw (no_numbers x (and_both (is_sequence x.kind) (empty x) a).1) (ap (λ (t : Segment). t.numbers) (sym f))
    go false false true a b e =
        let f : x ≡ z = cc in
        rw (no_numbers y (and_both (is_sequence y.kind) (empty y) b).1, append-nil x.numbers) (ap (λ (t : Segment). t.numbers) (sym f))
    go false false false a b e = let z : ◌≡◌ {A = ℕ} 0 1 = cc in absurd (omega arith)

abbrev merge : Segment → Segment → Option Segment
merge = merge_by (λ x. x.kind) empty append

scan_numbers : (x : Segment) (l : List Segment) → numbers_of (scan_from merge x l) ≡ x.numbers ++ numbers_of l
unfolding scan_from fold_map
scan_numbers x [] = refl
scan_numbers x (y ∷ l) = go (merge x y) refl (scan_numbers y l) (λ z. scan_numbers z l)
  where
    go : (o : Option Segment) → merge x y ≡ o → numbers_of (scan_from merge y l) ≡ y.numbers ++ numbers_of l
        → ((z : Segment) → numbers_of (scan_from merge z l) ≡ z.numbers ++ numbers_of l) → numbers_of (scan_from merge x (y ∷ l)) ≡ x.numbers ++ (y.numbers ++ numbers_of l)
    go (Some z) e f g =
        ap numbers_of (scan_one merge x y l z e) ∙ g z ∙ rw (merged_numbers x y z e) (append_assoc x.numbers y.numbers (numbers_of l))
    go None e f g = ap numbers_of (scan_two merge x y l e) ∙ ap (λ t. x.numbers ++ t) f

pub coalesce_numbers : (p : List Segment) → numbers_of (coalesce p) ≡ numbers_of p
unfolding scan fold_map
coalesce_numbers [] = refl
coalesce_numbers (x ∷ p) = scan_numbers x p

-- the entries of a record, coalesced, are those of its segments
pub coalesced_entries_lem : (p : List Segment) (ks ls : List ℕ) → ks ≡ kinds_of p → ls ≡ lengths_of p → coalesced_entries ks ls ≡ map entry (coalesce p)
coalesced_entries_lem p ks ls e f = rw (e, f, entries_of p) (entries_coalesced p)
