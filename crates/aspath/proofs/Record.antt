-- Laws of the path record: of its test, and of its segments and their flat layout.
use mathlib.Core.Path.{◌≡◌, refl, sym, ap, ◌∙◌}
use mathlib.Core.List.{List, [], ◌∷◌, ◌++◌}
use mathlib.Core.Bool.{Bool, true, false, cond, not, ◌||◌}
use Rattle.std.specs.Prelude.{Some, None}
use Prim.Native.Nat.{ℕ, ◌+◌, ◌≤◌}
use native.Mathlib.Omega.{arith}
use lib.ListN.{length, take, drop, length-append, length-map, length-drop, take-append-drop}
use lib.Seq.{take_at, drop_at, length-take-le}
use lib.Dec.{ltb, eqb}
use borrow.Author.Tests.{le-ltb, ltb-false, eqb-true, eq-eqb, not-false}
use Rattle.aspath.specs.Lists.{fold_map, any, sum}
use Rattle.aspath.specs.Record.{Segment, spoilt, cut, segments_of, path, kinds_of, lengths_of, numbers_of}

-- what an unspoilt record keeps to
pub record Unspoilt (ks ls ns : List ℕ) (s n : ℕ) : Type 0 where
  pub few_segments : s ≤ 4096
  pub few_numbers : n ≤ 16384
  pub kinds_there : s ≤ length ks
  pub lengths_there : s ≤ length ls
  pub numbers_there : n ≤ length ns
  pub kinds_known : any (ltb 3) (take s ks) ≡ false
  pub sums : sum (take s ls) ≡ n

pub or_none : (a b : Bool) → a || b ≡ false → (a ≡ false) × (b ≡ false)
or_none true b e = let z : ◌≡◌ {A = ℕ} 0 1 = cc in absurd (omega arith)
or_none false b e = (refl, e)

pub unspoilt : (ks ls ns : List ℕ) (s n : ℕ) → spoilt ks ls ns s n ≡ false → Unspoilt ks ls ns s n
unfolding spoilt
unspoilt ks ls ns s n = go (ltb 4096 s) (ltb 16384 n) (ltb (length ks) s) (ltb (length ls) s) (ltb (length ns) n) (any (ltb 3) (take s ks)) (eqb (sum (take s ls)) n) refl refl refl refl refl refl refl
  where
    go : (a b c d e f g : Bool) → ltb 4096 s ≡ a → ltb 16384 n ≡ b → ltb (length ks) s ≡ c → ltb (length ls) s ≡ d → ltb (length ns) n ≡ e → any (ltb 3) (take s ks) ≡ f → eqb (sum (take s ls)) n ≡ g
        → a || b || c || d || e || f || not g ≡ false → Unspoilt ks ls ns s n
    go a b c d e f g a= b= c= d= e= f= g= h =
        let h6 = or_none (a || b || c || d || e || f) (not g) h in
        let h5 = or_none (a || b || c || d || e) f h6.0 in
        let h4 = or_none (a || b || c || d) e h5.0 in
        let h3 = or_none (a || b || c) d h4.0 in
        let h2 = or_none (a || b) c h3.0 in
        let h1 = or_none a b h2.0 in
        record {
          few_segments = ltb-false 4096 s (a= ∙ h1.0);
          few_numbers = ltb-false 16384 n (b= ∙ h1.1);
          kinds_there = ltb-false (length ks) s (c= ∙ h2.1);
          lengths_there = ltb-false (length ls) s (d= ∙ h3.1);
          numbers_there = ltb-false (length ns) n (e= ∙ h4.1);
          kinds_known = f= ∙ h5.1;
          sums = eqb-true (sum (take s ls)) n (g= ∙ not-false g h6.1);
        }

-- the segments hold the kinds, the lengths and the numbers that they were cut from
pub cut_kinds : (ks ls ns : List ℕ) → length ks ≡ length ls → kinds_of (cut ks ls ns) ≡ ks
unfolding cut
cut_kinds [] ls ns e = refl
cut_kinds (k ∷ ks) [] ns e = absurd (omega arith)
cut_kinds (k ∷ ks) (l ∷ ls) ns e = ap (λ t. k ∷ t) (cut_kinds ks ls (drop l ns) (omega arith))

pub cut_lengths : (ks ls ns : List ℕ) → length ks ≡ length ls → sum ls ≤ length ns → lengths_of (cut ks ls ns) ≡ ls
unfolding cut fold_map
cut_lengths [] [] ns e f = refl
cut_lengths [] (l ∷ ls) ns e f = absurd (omega arith)
cut_lengths (k ∷ ks) [] ns e f = absurd (omega arith)
cut_lengths (k ∷ ks) (l ∷ ls) ns e f =
    let g : l ≤ length ns = omega arith in
    rw (length-take-le l ns g, cut_lengths ks ls (drop l ns) (omega arith) (simp length-drop (omega arith)))

pub cut_numbers : (ks ls ns : List ℕ) → length ks ≡ length ls → sum ls ≡ length ns → numbers_of (cut ks ls ns) ≡ ns
unfolding cut fold_map
cut_numbers [] [] [] e f = refl
cut_numbers [] [] (n ∷ ns) e f = absurd (omega arith)
cut_numbers [] (l ∷ ls) ns e f = absurd (omega arith)
cut_numbers (k ∷ ks) [] ns e f = absurd (omega arith)
cut_numbers (k ∷ ks) (l ∷ ls) ns e f =
    rw (cut_numbers ks ls (drop l ns) (omega arith) (simp length-drop (omega arith))) (take-append-drop l ns)

-- and cutting the flat layout of segments gives them back
pub cut_flat : (p : List Segment) → cut (kinds_of p) (lengths_of p) (numbers_of p) ≡ p
unfolding cut fold_map
cut_flat [] = refl
cut_flat (x ∷ p) =
    rw (take_at x.numbers (numbers_of p) (length x.numbers) refl, drop_at x.numbers (numbers_of p) (length x.numbers) refl, cut_flat p)

pub sum_flat : (p : List Segment) → sum (lengths_of p) ≡ length (numbers_of p)
unfolding fold_map
sum_flat [] = refl
sum_flat (x ∷ p) = rw (length-append, sum_flat p)

-- the record of an unspoilt path is the flat layout of its segments
module _ (ks ls ns : List ℕ) (s n : ℕ) (p : List Segment) (e : path ks ls ns s n ≡ Some p) where
  is_cut : (spoilt ks ls ns s n ≡ false) × (cut (take s ks) (take s ls) (take n ns) ≡ p)
  unfolding path segments_of
  is_cut = go (spoilt ks ls ns s n) refl e
    where
      go : (t : Bool) → spoilt ks ls ns s n ≡ t → cond t None (Some (cut (take s ks) (take s ls) (take n ns))) ≡ Some p
          → (spoilt ks ls ns s n ≡ false) × (cut (take s ks) (take s ls) (take n ns) ≡ p)
      go true f g = let z : ◌≡◌ {A = ℕ} 0 1 = cc in absurd (omega arith)
      go false f g = (f, cc)

  kept : Unspoilt ks ls ns s n
  kept = unspoilt ks ls ns s n is_cut.0

  same_count : length (take s ks) ≡ length (take s ls)
  same_count = length-take-le s ks kept.kinds_there ∙ sym (length-take-le s ls kept.lengths_there)

  summed_up : sum (take s ls) ≡ length (take n ns)
  summed_up = kept.sums ∙ sym (length-take-le n ns kept.numbers_there)

  pub path_kinds : take s ks ≡ kinds_of p
  path_kinds = rw (← is_cut.1) (sym (cut_kinds (take s ks) (take s ls) (take n ns) same_count))

  pub path_lengths : take s ls ≡ lengths_of p
  path_lengths = rw (← is_cut.1) (sym (cut_lengths (take s ks) (take s ls) (take n ns) same_count (omega (arith, summed_up))))

  pub path_numbers : take n ns ≡ numbers_of p
  path_numbers = rw (← is_cut.1) (sym (cut_numbers (take s ks) (take s ls) (take n ns) same_count summed_up))

-- the flat layout of segments within the limits is an unspoilt record of them, whatever stands behind it in the lists
pub flat_path : (p : List Segment) (a b c : List ℕ) → length p ≤ 4096 → length (numbers_of p) ≤ 16384 → any (ltb 3) (kinds_of p) ≡ false
    → path (kinds_of p ++ a) (lengths_of p ++ b) (numbers_of p ++ c) (length p) (length (numbers_of p)) ≡ Some p
unfolding path spoilt segments_of
flat_path p a b c h i j =
    simp (
      take_at (kinds_of p) a (length p) (length-map p (λ x. x.kind)),
      take_at (lengths_of p) b (length p) (length-map p (λ x. length x.numbers)),
      take_at (numbers_of p) c (length (numbers_of p)) refl,
      length-append,
      length-map,
      sum_flat p,
      j,
      cut_flat p,
      le-ltb 4096 (length p) h,
      le-ltb 16384 (length (numbers_of p)) i,
      eq-eqb (length (numbers_of p)) (length (numbers_of p)) refl,
      le-ltb (length p + length a) (length p) (omega arith),
      le-ltb (length p + length b) (length p) (omega arith),
      le-ltb (length (numbers_of p) + length c) (length (numbers_of p)) (omega arith),
    )

-- what a call knows by its test: at a spoilt record
pub spoilt_path : (ks ls ns : List ℕ) (s n : ℕ) (r : Bool) → r ≡ spoilt ks ls ns s n → r ≡ true → path ks ls ns s n ≡ None
unfolding path
spoilt_path ks ls ns s n r e t = simp (sym e ∙ t)

-- and at an unspoilt one: its segments, and their number
pub passed : (ks ls ns : List ℕ) (s n : ℕ) (r : Bool) → r ≡ spoilt ks ls ns s n → r ≡ false → spoilt ks ls ns s n ≡ false
passed ks ls ns s n r e t = sym e ∙ t

module _ (ks ls ns : List ℕ) (s n : ℕ) (sound : spoilt ks ls ns s n ≡ false) where
  pub unspoilt_path : path ks ls ns s n ≡ Some (segments_of ks ls ns s n)
  unfolding path
  unspoilt_path = simp sound

  pub unspoilt_record : Unspoilt ks ls ns s n
  unspoilt_record = unspoilt ks ls ns s n sound

  pub segments_count : length (segments_of ks ls ns s n) ≡ s
  segments_count =
      sym (length-map (segments_of ks ls ns s n) (λ x. x.kind)) ∙ ap length (sym (path_kinds ks ls ns s n _ unspoilt_path))
      ∙ length-take-le s ks unspoilt_record.kinds_there

  -- the record of it, cut to its counts
  pub cut_path : path ks ls ns s n ≡ Some (cut (take s ks) (take s ls) (take n ns))
  unfolding segments_of
  cut_path = unspoilt_path

  pub taken : (length (take s ks) ≡ s) × (length (take s ls) ≡ s) × (length (take n ns) ≡ n)
  taken = (length-take-le s ks unspoilt_record.kinds_there, length-take-le s ls unspoilt_record.lengths_there, length-take-le n ns unspoilt_record.numbers_there)
