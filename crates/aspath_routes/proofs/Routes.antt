-- The k-th route is the one that the digits of k spell, the lengths of the sets being the radices.
use mathlib.Core.Path.{◌≡◌, refl, sym, ap, ◌∙◌}
use mathlib.Core.List.{List, [], ◌∷◌, ◌++◌, map}
use mathlib.Core.Bool.{Bool, true, false, cond, ◌&&◌}
use Rattle.std.specs.Prelude.{Some, None, slice_get}
use mathlib.Core.Logic.{⊎_elim}
use Prim.Native.Nat.{ℕ, zero, suc, ◌+◌, ◌*◌, ◌/◌, ◌%◌, ◌≤◌, ◌<◌}
use native.Mathlib.Nat.{mod-lt, div-add-mod', div-lt_iff_lt-mul, mul_comm, mul-zero, mul-suc, suc-mul, zero-mul, one-mul, zero-add, eq-zero-or-pos}
use native.Mathlib.Omega.{arith}
use lib.ListN.{length, get_or, length-append, length-map}
use lib.Dec.{ltb, eqb}
use borrow.Author.Tests.{lt-ltb, eqb-true}
use Rattle.aspath.specs.Lists.{fold_map, concat_of}
use Rattle.aspath.specs.Record.{Segment}
use Rattle.aspath.specs.Queries.{variations, route_len}
use Rattle.aspath_routes.specs.Routes.{routes, left, numbered}

-- the element at a place of a list, of an append and of a map
module _ {A : Type 0} where
  nth_at : (l : List A) (k : ℕ) (d : A) → k < length l → slice_get l k ≡ Some (get_or l k d)
  nth_at [] k d h = absurd (omega arith)
  nth_at (a ∷ l) zero d h = refl
  nth_at (a ∷ l) (suc k) d h = nth_at l k d (omega arith)

  pub nth_none : (l : List A) (k : ℕ) → length l ≤ k → slice_get l k ≡ None
  nth_none [] k h = refl
  nth_none (a ∷ l) zero h = absurd (omega arith)
  nth_none (a ∷ l) (suc k) h = nth_none l k (omega arith)

  nth_first : (s t : List A) (k : ℕ) → k < length s → slice_get (s ++ t) k ≡ slice_get s k
  nth_first [] t k h = absurd (omega arith)
  nth_first (a ∷ s) t zero h = refl
  nth_first (a ∷ s) t (suc k) h = nth_first s t k (omega arith)

  nth_second : (s t : List A) (k : ℕ) → slice_get (s ++ t) (length s + k) ≡ slice_get t k
  nth_second [] t k = rw zero-add
  nth_second (a ∷ s) t k = let z : suc (length s) + k ≡ suc (length s + k) = omega arith in rw z (nth_second s t k)

  nth_map : {B : Type 0} (f : A → B) (l : List A) (k : ℕ) (t : A) → slice_get l k ≡ Some t → slice_get (map f l) k ≡ Some (f t)
  nth_map f [] k t e = let z : ◌≡◌ {A = ℕ} 0 1 = cc in absurd (omega arith)
  nth_map f (a ∷ l) zero t e = let z : a ≡ t = cc in rw z
  nth_map f (a ∷ l) (suc k) t e = nth_map f l k t e

-- of blocks of one length each, the place j of the block q
module _ (c : List ℕ) where
  nth_block : (r : List (List ℕ)) (q j : ℕ) (t : List ℕ) → j < length c → slice_get r q ≡ Some t
      → slice_get (concat_of (λ u. map (λ a. a ∷ u) c) r) (q * length c + j) ≡ Some (get_or c j 0 ∷ t)
  unfolding fold_map
  nth_block [] q j t h e = let z : ◌≡◌ {A = ℕ} 0 1 = cc in absurd (omega arith)
  nth_block (u ∷ r) zero j t h e =
      let z : u ≡ t = cc in
      rw (zero-mul, zero-add, nth_first (map (λ a. a ∷ u) c) (concat_of (λ u. map (λ a. a ∷ u) c) r) j (rw length-map h), z)
      (nth_map (λ a. a ∷ t) c j (get_or c j 0) (nth_at c j 0 h))
  nth_block (u ∷ r) (suc q) j t h e =
      let z : suc q * length c + j ≡ length (map (λ a. a ∷ u) c) + (q * length c + j) = rw (suc-mul, length-map) (omega arith) in
      rw (z, nth_second (map (λ a. a ∷ u) c) (concat_of (λ u. map (λ a. a ∷ u) c) r) (q * length c + j)) (nth_block r q j t h e)

  blocks_count : (r : List (List ℕ)) → length (concat_of (λ u. map (λ a. a ∷ u) c) r) ≡ length c * length r
  unfolding fold_map
  blocks_count [] = sym (mul-zero (length c))
  blocks_count (u ∷ r) = rw (length-append, length-map, blocks_count r, mul-suc) (omega arith)

-- there are as many routes as the product of the sets' lengths
pub routes_count : (p : List Segment) → length (routes p) ≡ variations p
unfolding routes fold_map
routes_count [] = refl
routes_count (x ∷ p) = go (eqb x.kind 0) refl (eqb x.kind 1) refl (routes_count p)
  where
    go : (a : Bool) → eqb x.kind 0 ≡ a → (b : Bool) → eqb x.kind 1 ≡ b → length (routes p) ≡ variations p
        → length (cond a (map (λ t. x.numbers ++ t) (routes p)) (cond b (concat_of (λ t. map (λ a. a ∷ t) x.numbers) (routes p)) (routes p)))
        ≡ cond b (length x.numbers) 1 * variations p
    go true a= true b= e = absurd (omega (arith, eqb-true x.kind 0 a=, eqb-true x.kind 1 b=))
    go true a= false b= e = rw (length-map, e) (sym (one-mul (variations p)))
    go false a= true b= e = rw (blocks_count x.numbers (routes p), e)
    go false a= false b= e = rw e (sym (one-mul (variations p)))

-- the k-th of them is the route of number k
pub nth_route : (p : List Segment) (k : ℕ) → k < variations p → slice_get (routes p) k ≡ Some (numbered p k)
unfolding routes numbered fold_map
nth_route [] k h = let z : k ≡ 0 = omega arith in rw z
nth_route (x ∷ p) k h = go (eqb x.kind 0) refl (eqb x.kind 1) refl (λ j. nth_route p j) h
  where
    go : (a : Bool) → eqb x.kind 0 ≡ a → (b : Bool) → eqb x.kind 1 ≡ b → ((j : ℕ) → j < variations p → slice_get (routes p) j ≡ Some (numbered p j))
        → k < cond b (length x.numbers) 1 * variations p
        → slice_get (cond a (map (λ t. x.numbers ++ t) (routes p)) (cond b (concat_of (λ t. map (λ a. a ∷ t) x.numbers) (routes p)) (routes p))) k
        ≡ Some (cond a x.numbers (cond b (get_or x.numbers (k % length x.numbers) 0 ∷ []) [])
        ++ numbered p (cond (b && ltb 0 (length x.numbers)) (k / length x.numbers) k))
    go true a= true b= ih i = absurd (omega (arith, eqb-true x.kind 0 a=, eqb-true x.kind 1 b=))
    go true a= false b= ih i = nth_map (λ t. x.numbers ++ t) (routes p) k (numbered p k) (ih k (omega (arith, one-mul (variations p))))
    go false a= true b= ih i =
        let some_choice : 0 < length x.numbers =
        ⊎_elim (λ z. absurd (omega (arith, rw (z, zero-mul) at i))) (λ z. z) (eq-zero-or-pos (length x.numbers)) in
        let below : k / length x.numbers < variations p =
        (div-lt_iff_lt-mul {k = length x.numbers} {x = k} {y = variations p} some_choice).1 (omega (arith, mul_comm (variations p) (length x.numbers))) in
        rw (lt-ltb 0 (length x.numbers) some_choice)
        (ap (slice_get (concat_of (λ t. map (λ a. a ∷ t) x.numbers) (routes p))) (sym (div-add-mod' k (length x.numbers)))
        ∙ nth_block x.numbers (routes p) (k / length x.numbers) (k % length x.numbers) (numbered p (k / length x.numbers))
        (mod-lt k some_choice) (ih (k / length x.numbers) below))
    go false a= false b= ih i = ih k (omega (arith, one-mul (variations p)))

-- its length is the same for every number
pub numbered_length : (p : List Segment) (k : ℕ) → length (numbered p k) ≡ route_len p
unfolding numbered fold_map
numbered_length [] k = refl
numbered_length (x ∷ p) k =
    rw (length-append, numbered_length p (left x.kind (length x.numbers) k)) (ap (λ n. n + route_len p) (go (eqb x.kind 0) (eqb x.kind 1)))
  where
    go : (a b : Bool) → length (cond a x.numbers (cond b (get_or x.numbers (k % length x.numbers) 0 ∷ []) [])) ≡ cond a (length x.numbers) (cond b 1 0)
    go true b = refl
    go false true = refl
    go false false = refl
