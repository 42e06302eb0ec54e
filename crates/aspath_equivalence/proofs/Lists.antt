-- Two normal forms are the same path, by the Rust's ==, where their three lists are the same.
use mathlib.Core.Path.{◌≡◌, refl, sym, ap₂, ◌∙◌}
use mathlib.Core.List.{List, [], ◌∷◌}
use mathlib.Core.Bool.{Bool, true, false, ◌&&◌}
use Prim.Native.Nat.{ℕ}
use native.Mathlib.Omega.{arith}
use lib.Dec.{eqb}
use borrow.Author.Tests.{eqb-true, eq-eqb}
use Rattle.std.proofs.lemmas.Slice.Eq.{bytes_eq-Decides}
use Rattle.aspath.specs.Record.{Segment, cut, kinds_of, lengths_of, numbers_of}
use Rattle.aspath.proofs.Lists.{and_both}
use Rattle.aspath.proofs.Record.{cut_flat}
use Rattle.aspath_normal.specs.Normal.{sort_set}
use Rattle.aspath_normal.proofs.Normal.{All, Sorted}
use Rattle.aspath_equivalence.specs.Routing.{same_numbers, same_segment, same_path}

abbrev of : ℕ → List ℕ → Segment
of k n = record { kind = k; numbers = n }

-- the comparisons tell whether two lists, two segments or two paths are the same
same_numbers_lem : (a b : List ℕ) → same_numbers a b ≡ true → a ≡ b
same_numbers_lem a b = (bytes_eq-Decides a b).0

numbers_same : (a : List ℕ) → same_numbers a a ≡ true
numbers_same a = (bytes_eq-Decides a a).1 refl

same_path_lem : (p q : List Segment) → All Sorted p → All Sorted q → same_path p q ≡ true → p ≡ q
unfolding same_path
same_path_lem [] [] a b e = refl
same_path_lem [] (y ∷ q) a b e = let z : ◌≡◌ {A = ℕ} 0 1 = cc in absurd (omega arith)
same_path_lem (x ∷ p) [] a b e = let z : ◌≡◌ {A = ℕ} 0 1 = cc in absurd (omega arith)
same_path_lem (x ∷ p) (y ∷ q) a b e = ap₂ (λ z l. z ∷ l) (same both.0) (same_path_lem p q a.1 b.1 both.1)
  where
    both : (same_segment x y ≡ true) × (same_path p q ≡ true)
    both = and_both (same_segment x y) (same_path p q) e

    same : same_segment x y ≡ true → x ≡ y
    same f =
        let z = and_both (eqb x.kind y.kind) (same_numbers (sort_set x).numbers (sort_set y).numbers) f in
        sym a.0 ∙ ap₂ of (eqb-true x.kind y.kind z.0) (same_numbers_lem (sort_set x).numbers (sort_set y).numbers z.1) ∙ b.0

path_same : (p : List Segment) → same_path p p ≡ true
unfolding same_path
path_same [] = refl
path_same (x ∷ p) = simp (eq-eqb x.kind x.kind refl, numbers_same (sort_set x).numbers, path_same p)

-- and two normal forms are compared by their lists
abbrev pub same_lists : List Segment → List Segment → Bool
same_lists p q =
    same_numbers (kinds_of p) (kinds_of q) && (same_numbers (lengths_of p) (lengths_of q) && same_numbers (numbers_of p) (numbers_of q))

same_lists_lem : (p q : List Segment) → same_lists p q ≡ true → p ≡ q
same_lists_lem p q h =
    let one = and_both (same_numbers (kinds_of p) (kinds_of q)) (same_numbers (lengths_of p) (lengths_of q) && same_numbers (numbers_of p) (numbers_of q)) h in
    let two = and_both (same_numbers (lengths_of p) (lengths_of q)) (same_numbers (numbers_of p) (numbers_of q)) one.1 in
    let k = same_numbers_lem (kinds_of p) (kinds_of q) one.0 in
    let l = same_numbers_lem (lengths_of p) (lengths_of q) two.0 in
    let n = same_numbers_lem (numbers_of p) (numbers_of q) two.1 in
    sym (cut_flat p) ∙ (let s : cut (kinds_of p) (lengths_of p) (numbers_of p) ≡ cut (kinds_of q) (lengths_of q) (numbers_of q) = cc in s) ∙ cut_flat q

lists_same : (p : List Segment) → same_lists p p ≡ true
lists_same p = simp (numbers_same (kinds_of p), numbers_same (lengths_of p), numbers_same (numbers_of p))

pub same_by_lists : (p q : List Segment) → All Sorted p → All Sorted q → same_lists p q ≡ same_path p q
same_by_lists p q a b =
    iff (same_lists p q) (same_path p q) (λ e. rw (same_lists_lem p q e) (path_same q)) (λ e. rw (same_path_lem p q a b e) (lists_same q))
  where
    iff : (s t : Bool) → (s ≡ true → t ≡ true) → (t ≡ true → s ≡ true) → s ≡ t
    iff true t f g = sym (f refl)
    iff false true f g = g refl
    iff false false f g = refl
