-- The scan of coalesce, over any type of segments.
use mathlib.Core.Path.{◌≡◌, refl, sym, ap, subst, ◌∙◌}
use mathlib.Core.Logic.{◌⊎◌, inl, inr, ⊎_elim}
use mathlib.Core.List.{List, [], ◌∷◌, map}
use mathlib.Core.Bool.{Bool, true, false, cond, ◌&&◌}
use Rattle.std.specs.Option.{option_map}
use Rattle.std.proofs.Common.{Option, Some, None}
use Prim.Native.Nat.{ℕ}
use native.Mathlib.Omega.{arith}
use lib.Dec.{eqb}
use Rattle.aspath_normal.specs.Normal.{is_sequence, merge_by, scan_from, scan}

-- one step of the scan
module _ {X : Type 0} (m : X → X → Option X) (x y : X) (l : List X) where
  pub scan_one : (z : X) → m x y ≡ Some z → scan_from m x (y ∷ l) ≡ scan_from m z l
  unfolding scan_from
  scan_one z e = ap (λ (o : Option X). elim o [ None ↦ x ∷ scan_from m y l | Some w ↦ scan_from m w l ]) e

  pub scan_two : m x y ≡ None → scan_from m x (y ∷ l) ≡ x ∷ scan_from m y l
  unfolding scan_from
  scan_two e = ap (λ (o : Option X). elim o [ None ↦ x ∷ scan_from m y l | Some w ↦ scan_from m w l ]) e

-- a map that goes along with the merging of two segments goes along with the scan
module _ {X Y : Type 0} (h : X → Y) (m : X → X → Option X) (n : Y → Y → Option Y) (e : (x y : X) → n (h x) (h y) ≡ option_map h (m x y)) where
  pub scan_from_map : (x : X) (l : List X) → map h (scan_from m x l) ≡ scan_from n (h x) (map h l)
  unfolding scan_from
  scan_from_map x [] = refl
  scan_from_map x (y ∷ l) = rw (e x y) (go (m x y) (scan_from_map y l) (λ z. scan_from_map z l))
    where
      go : (o : Option X) → map h (scan_from m y l) ≡ scan_from n (h y) (map h l) → ((z : X) → map h (scan_from m z l) ≡ scan_from n (h z) (map h l))
          → map h (elim o [ None ↦ x ∷ scan_from m y l | Some z ↦ scan_from m z l ])
          ≡ elim (option_map h o) [ None ↦ h x ∷ scan_from n (h y) (map h l) | Some z ↦ scan_from n z (map h l) ]
      go None a b = ap (λ t. h x ∷ t) a
      go (Some z) a b = b z

  pub scan_map : (l : List X) → map h (scan m l) ≡ scan n (map h l)
  unfolding scan
  scan_map [] = refl
  scan_map (x ∷ l) = scan_from_map x l

-- merging goes along with a map that keeps the kind and the emptiness of a segment, and joins of sequences of one kind
module _ {X Y : Type 0} (h : X → Y) (k : X → ℕ) (k' : Y → ℕ) (v : X → Bool) (v' : Y → Bool) (j : X → X → X) (j' : Y → Y → Y) where
  pub merge_map : ((x : X) → k' (h x) ≡ k x) → ((x : X) → v' (h x) ≡ v x)
      → ((x y : X) → is_sequence (k x) && eqb (k x) (k y) ≡ true → j' (h x) (h y) ≡ h (j x y)) → (x y : X)
      → merge_by k' v' j' (h x) (h y) ≡ option_map h (merge_by k v j x y)
  merge_map a b c x y =
      rw (a x, a y, b x, b y)
      (go (is_sequence (k x) && eqb (k x) (k y)) refl (is_sequence (k x) && v x) (is_sequence (k y) && v y))
    where
      go : (p : Bool) → is_sequence (k x) && eqb (k x) (k y) ≡ p → (q r : Bool)
          → cond p (Some (j' (h x) (h y))) (cond q (Some (h y)) (cond r (Some (h x)) None))
          ≡ option_map h (cond p (Some (j x y)) (cond q (Some y) (cond r (Some x) None)))
      go true e q r = ap Some (c x y e)
      go false e true r = refl
      go false e false true = refl
      go false e false false = refl

-- no two neighbours merge
abbrev pub Apart : {X : Type 0} → (X → X → Option X) → List X → Type 0
Apart m [] = Unit {0}
Apart m (x ∷ []) = Unit {0}
Apart m (x ∷ y ∷ l) = (m x y ≡ None) × Apart m (y ∷ l)

-- such a list is scanned to itself
pub apart_scan : {X : Type 0} (m : X → X → Option X) (l : List X) → Apart m l → scan m l ≡ l
unfolding scan scan_from
apart_scan m [] a = refl
apart_scan {X} m (x ∷ l) a = from x l a
  where
    from : (x : X) (l : List X) → Apart m (x ∷ l) → scan_from m x l ≡ x ∷ l
    from x [] a = refl
    from x (y ∷ l) a = scan_two m x y l a.0 ∙ ap (λ t. x ∷ t) (from y l a.1)

-- two that do not merge do not merge either once the second has merged with a third
abbrev pub Stable : {X : Type 0} → (X → X → Option X) → Type 0
Stable {X} m = (x y z w : X) → m x y ≡ None → m y z ≡ Some w → m x w ≡ None

-- then the scan leaves no two neighbours that merge, and a second scan changes nothing
module _ {X : Type 0} (m : X → X → Option X) (s : Stable m) where
  apart_behind : (a x : X) (l : List X) → m a x ≡ None → Apart m (a ∷ scan_from m x l)
  unfolding scan_from
  apart_behind a x [] h = (h, tt)
  apart_behind a x (y ∷ l) h = go (m x y) refl (λ z. apart_behind a z l) (apart_behind x y l)
    where
      go : (o : Option X) → m x y ≡ o → ((z : X) → m a z ≡ None → Apart m (a ∷ scan_from m z l)) → (m x y ≡ None → Apart m (x ∷ scan_from m y l))
          → Apart m (a ∷ scan_from m x (y ∷ l))
      go (Some z) e f g = subst (λ t. Apart m (a ∷ t)) (sym (scan_one m x y l z e)) (f z (s a x y z h e))
      go None e f g = subst (λ t. Apart m (a ∷ t)) (sym (scan_two m x y l e)) (h, g e)

  apart_from : (x : X) (l : List X) → Apart m (scan_from m x l)
  unfolding scan_from
  apart_from x [] = tt
  apart_from x (y ∷ l) = go (m x y) refl (λ z. apart_from z l)
    where
      go : (o : Option X) → m x y ≡ o → ((z : X) → Apart m (scan_from m z l)) → Apart m (scan_from m x (y ∷ l))
      go (Some z) e f = subst (Apart m) (sym (scan_one m x y l z e)) (f z)
      go None e f = subst (Apart m) (sym (scan_two m x y l e)) (apart_behind x y l e)

  pub scan_apart : (l : List X) → Apart m (scan m l)
  unfolding scan
  scan_apart [] = tt
  scan_apart (x ∷ l) = apart_from x l

  pub scan_twice : (l : List X) → scan m (scan m l) ≡ scan m l
  scan_twice l = apart_scan m (scan m l) (scan_apart l)

-- merging segments is stable, where a join keeps the kind and is empty only where both are
module _ {X : Type 0} (k : X → ℕ) (v : X → Bool) (j : X → X → X) where
  -- two segments that do not merge: no two sequences of one kind, and neither an empty sequence
  pub merge_none : (x y : X) → merge_by k v j x y ≡ None
      → (is_sequence (k x) && eqb (k x) (k y) ≡ false) × (is_sequence (k x) && v x ≡ false) × (is_sequence (k y) && v y ≡ false)
  merge_none x y = go (is_sequence (k x) && eqb (k x) (k y)) refl (is_sequence (k x) && v x) refl (is_sequence (k y) && v y) refl
    where
      go : (p : Bool) → is_sequence (k x) && eqb (k x) (k y) ≡ p → (q : Bool) → is_sequence (k x) && v x ≡ q → (r : Bool) → is_sequence (k y) && v y ≡ r
          → cond p (Some (j x y)) (cond q (Some y) (cond r (Some x) None)) ≡ None
          → (is_sequence (k x) && eqb (k x) (k y) ≡ false) × (is_sequence (k x) && v x ≡ false) × (is_sequence (k y) && v y ≡ false)
      go true a q b r c e = let z : ◌≡◌ {A = ℕ} 0 1 = cc in absurd (omega arith)
      go false a true b r c e = let z : ◌≡◌ {A = ℕ} 0 1 = cc in absurd (omega arith)
      go false a false b true c e = let z : ◌≡◌ {A = ℕ} 0 1 = cc in absurd (omega arith)
      go false a false b false c e = (a, b, c)

  none_merge : (x y : X) → is_sequence (k x) && eqb (k x) (k y) ≡ false → is_sequence (k x) && v x ≡ false → is_sequence (k y) && v y ≡ false
      → merge_by k v j x y ≡ None
  none_merge x y a b c = rw (a, b, c)

  -- what merges behind a segment that is no empty sequence
  merged_either : (y z w : X) → is_sequence (k y) && v y ≡ false → merge_by k v j y z ≡ Some w
      → ((is_sequence (k y) && eqb (k y) (k z) ≡ true) × (j y z ≡ w)) ⊎ (y ≡ w)
  merged_either y z w = go (is_sequence (k y) && eqb (k y) (k z)) refl (is_sequence (k y) && v y) (is_sequence (k z) && v z)
    where
      go : (p : Bool) → is_sequence (k y) && eqb (k y) (k z) ≡ p → (q r : Bool) → q ≡ false → cond p (Some (j y z)) (cond q (Some z) (cond r (Some y) None)) ≡ Some w
          → ((is_sequence (k y) && eqb (k y) (k z) ≡ true) × (j y z ≡ w)) ⊎ (y ≡ w)
      go true a q r b e = let h : j y z ≡ w = cc in inl (a, h)
      go false a true r b e = let z : ◌≡◌ {A = ℕ} 0 1 = cc in absurd (omega arith)
      go false a false true b e = let h : y ≡ w = cc in inr h
      go false a false false b e = let z : ◌≡◌ {A = ℕ} 0 1 = cc in absurd (omega arith)

  pub merge_stable : ((x y : X) → k (j x y) ≡ k x) → ((x y : X) → v x ≡ false → v (j x y) ≡ false) → Stable (merge_by k v j)
  merge_stable kj vj x y z w e f =
      ⊎_elim (λ h. subst (λ t. merge_by k v j x t ≡ None) h.1 (joined h.0)) (λ h. subst (λ t. merge_by k v j x t ≡ None) h e)
      (merged_either y z w n.2 f)
    where
      n : (is_sequence (k x) && eqb (k x) (k y) ≡ false) × (is_sequence (k x) && v x ≡ false) × (is_sequence (k y) && v y ≡ false)
      n = merge_none x y e

      full : (p b : Bool) → p && b ≡ true → (q : Bool) → p && q ≡ false → q ≡ false
      full true b g q h = h
      full false b g q h = let z : ◌≡◌ {A = ℕ} 0 1 = cc in absurd (omega arith)

      and_false : (b : Bool) → b && false ≡ false
      and_false true = refl
      and_false false = refl

      joined : is_sequence (k y) && eqb (k y) (k z) ≡ true → merge_by k v j x (j y z) ≡ None
      joined g =
          none_merge x (j y z) (rw (kj y z) n.0) n.1
          (rw (vj y z (full (is_sequence (k y)) (eqb (k y) (k z)) g (v y) n.2)) (and_false (is_sequence (k (j y z)))))
