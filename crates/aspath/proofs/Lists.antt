-- Laws of folds, for a loop that keeps what the elements so far make.
use mathlib.Core.Path.{◌≡◌, refl, sym, ap, ◌∙◌}
use mathlib.Core.List.{List, [], ◌∷◌, ◌++◌, map}
use mathlib.Core.Bool.{Bool, true, false, ◌&&◌, ◌||◌, or_assoc, or-false}
use Prim.Native.Nat.{ℕ, ◌+◌, ◌≤◌, ◌<◌}
use native.Mathlib.Numerals.{add-one}
use lib.ListN.{length, get_or, take}
use lib.Seq.{take_all, take-suc}
use native.Mathlib.Omega.{arith}
use Rattle.std.specs.List.{list_any, sum as total}
use Rattle.std.proofs.lemmas.List.Sums.{sum_by-cons}
use Rattle.aspath.specs.Lists.{fold_map, any, sum_of}

-- one element more, and none left, of any fold by an associative operation
module _ {A B : Type 0} (op : B → B → B) (e : B) (assoc : (a b c : B) → op (op a b) c ≡ op a (op b c)) (unit : (a : B) → op a e ≡ a) where
  module _ (f : A → B) (whole left : List A) (so_far : B) (known : fold_map op e f whole ≡ op so_far (fold_map op e f left)) where
    pub fold_step : (x : A) (rest : List A) (v : B) → left ≡ x ∷ rest → v ≡ f x → fold_map op e f whole ≡ op (op so_far v) (fold_map op e f rest)
    unfolding fold_map
    fold_step x rest v first is = known ∙ rw (first, is) (sym (assoc so_far (f x) (fold_map op e f rest)))

    pub fold_done : left ≡ [] → so_far ≡ fold_map op e f whole
    unfolding fold_map
    fold_done none = sym (known ∙ rw none (unit so_far))

-- whether some element passes, asked of one element after another
module _ {A : Type 0} (f : A → Bool) where
  any_append : (l m : List A) → any f (l ++ m) ≡ any f l || any f m
  unfolding fold_map
  any_append [] m = refl
  any_append (x ∷ l) m = ap (λ b. f x || b) (any_append l m) ∙ sym (or_assoc (f x) (any f l) (any f m))

  any_next : (s : List A) (i : ℕ) (d : A) → i < length s → any f (take (i + 1) s) ≡ any f (take i s) || f (get_or s i d)
  unfolding fold_map
  any_next s i d h = rw (add-one, take-suc s i d h, any_append) (rw or-false)

  pub over_none : false ≡ any f []
  unfolding fold_map
  over_none = refl

  module _ (s : List A) (i : ℕ) (r : Bool) (e : r ≡ any f (take i s)) where
    pub over_next : (d : A) (v : Bool) → i < length s → v ≡ f (get_or s i d) → r || v ≡ any f (take (i + 1) s)
    over_next d v h is = rw is (sym (any_next s i d h ∙ rw e))

    pub over_all : length s ≤ i → r ≡ any f s
    over_all h = e ∙ ap (any f) (take_all i s h)

-- two tests that both hold
pub and_both : (a b : Bool) → a && b ≡ true → (a ≡ true) × (b ≡ true)
and_both true b e = (refl, e)
and_both false b e = let z : ◌≡◌ {A = ℕ} 0 1 = cc in absurd (omega arith)

-- the library's words for the same folds
pub any_is : {A : Type 0} (f : A → Bool) (xs : List A) → list_any f xs ≡ any f xs
unfolding fold_map
any_is f [] = refl
any_is f (x ∷ xs) = rw (any_is f xs)

pub sum_is : (xs : List ℕ) → total xs ≡ sum_of (λ n. n) xs
unfolding fold_map
sum_is [] = refl
sum_is (x ∷ xs) = sum_by-cons (λ n. n) x xs ∙ rw (sum_is xs)

pub sum_map_is : {A : Type 0} (f : A → ℕ) (xs : List A) → total (map f xs) ≡ sum_of f xs
unfolding fold_map
sum_map_is f [] = refl
sum_map_is f (x ∷ xs) = sum_by-cons (λ n. n) (f x) (map f xs) ∙ rw (sum_map_is f xs)
