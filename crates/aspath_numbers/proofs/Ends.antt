-- Laws of the first and the last of a list, and of a path's numbers.
use mathlib.Core.Path.{◌≡◌, refl, sym, ◌∙◌}
use mathlib.Core.List.{List, [], ◌∷◌, ◌++◌, map, append-nil}
use mathlib.Core.Bool.{Bool, true, false, false≢true, ◌&&◌, ◌||◌}
use Prim.Native.Nat.{ℕ, zero, suc, ◌-◌, ◌<◌}
use lib.ListN.{length, length-map, length-append, get_or, get_or-append}
use lib.Dec.{eqb}
use native.Mathlib.Omega.{arith}
use Rattle.std.specs.Prelude.{Option, Some, None, slice_get, option_map}
use Rattle.std.specs.List.{last_or}
use Rattle.std.proofs.lemmas.Option.{slice_get-map, slice_get-get_or, slice_get_within}
use Rattle.aspath.specs.Lists.{fold_map}
use Rattle.aspath.specs.Record.{Segment, numbers_of}
use Rattle.aspath_numbers.specs.Numbers.{single}

last_is : {A : Type 0} (o : Option A) (x : A) (xs : List A) → last_or o (x ∷ xs) ≡ slice_get (x ∷ xs) (length xs)
last_is o x [] = refl
last_is o x (y ∷ xs) = last_is (Some x) y xs

-- the last of the items that a whole run gave, as a view of it
pub last_seen : {A B : Type 0} (v : A → B) (xs : List A) (all : List B) → map v xs ≡ all → option_map v (last_or None xs) ≡ slice_get all (length all - 1)
last_seen v [] all e = rw (← e)
last_seen v (x ∷ xs) all e =
    let n : length (map v (x ∷ xs)) - 1 ≡ length xs = omega (arith, length-map xs v) in
    rw (← e, last_is None x xs, n) (sym (slice_get-map v (x ∷ xs) (length xs)))

last_append : {A : Type 0} (s t : List A) → 0 < length t → slice_get (s ++ t) (length (s ++ t) - 1) ≡ slice_get t (length t - 1)
last_append [] t h = refl
last_append (a ∷ s) t h =
    let n : length (a ∷ (s ++ t)) - 1 ≡ suc (length (s ++ t) - 1) = omega (arith, length-append s t) in rw n (last_append s t h)

-- the last number of the last segment is the last of all, the first of the first is the first of all
pub last_number : (p : List Segment) (x : Segment) → slice_get p (length p - 1) ≡ Some x → 0 < length x.numbers
    → slice_get (numbers_of p) (length (numbers_of p) - 1) ≡ slice_get x.numbers (length x.numbers - 1)
unfolding fold_map
last_number [] x e h = let z : ◌≡◌ {A = ℕ} 0 1 = cc in absurd (omega arith)
last_number (y ∷ []) x e h = rw append-nil (let z : y ≡ x = cc in rw z)
last_number (y ∷ z ∷ p) x e h =
    let n : length (y ∷ z ∷ p) - 1 ≡ suc (length (z ∷ p) - 1) = omega arith in
    let r = last_number (z ∷ p) x (rw n at e) h in
    let all = numbers_of (z ∷ p) in
    let there = slice_get_within all (length all - 1) _ (r ∙ slice_get-get_or x.numbers (length x.numbers - 1) 0 (omega (arith, h))) in
    last_append y.numbers all (omega (arith, there)) ∙ r

pub first_number : (p : List Segment) (x : Segment) → slice_get p 0 ≡ Some x → 0 < length x.numbers → slice_get x.numbers 0 ≡ Some (get_or (numbers_of p) 0 0)
unfolding fold_map
first_number [] x e h = let z : ◌≡◌ {A = ℕ} 0 1 = cc in absurd (omega arith)
first_number (y ∷ p) x e h =
    let z : y ≡ x = cc in rw (z, get_or-append x.numbers (numbers_of p) 0 0 h) (slice_get-get_or x.numbers 0 0 h)

-- a segment with one number at its end has a number
pub single_some : (k l : ℕ) → single k l ≡ true → 0 < l
single_some k zero e = absurd (false≢true (sym (neither (eqb k 0) (eqb k 1)) ∙ e))
  where
    neither : (a b : Bool) → (a && false) || (b && false) ≡ false
    neither true true = refl
    neither true false = refl
    neither false true = refl
    neither false false = refl
single_some k (suc l) e = omega arith
