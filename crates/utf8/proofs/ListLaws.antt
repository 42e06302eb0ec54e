-- Laws of lists whose elements all pass a test, and of lists whose elements are mapped.
use mathlib.Core.Path.{◌≡◌, refl, sym, ap, ◌∙◌}
use mathlib.Core.List.{List, [], ◌∷◌, ◌++◌, append_assoc, map, flatten}
use mathlib.Core.Bool.{Bool, true, ◌&&◌}
use Prim.Native.Nat.{ℕ, zero, suc, ◌+◌, ◌<◌}
use native.Mathlib.Omega.{arith}
use lib.ListN.{length, get_or, take, drop, take-append-drop}
use lib.Seq.{take-add}
use Rattle.utf8.specs.Utf8.{all}
use Rattle.utf8.proofs.TestLaws.{both}
pub use Rattle.scan.proofs.ListLaws.{all_append, all_next}

pub flatten_append : {A : Type 0} (l m : List (List A)) → flatten (l ++ m) ≡ flatten l ++ flatten m
unfolding flatten
flatten_append [] m = refl
flatten_append (x ∷ l) m = ap (λ r. x ++ r) (flatten_append l m) ∙ sym (append_assoc x (flatten l) (flatten m))

module _ {A : Type 0} (p : A → Bool) where
  pub all_parts : (l m : List A) → all p (l ++ m) ≡ true → (all p l ≡ true) × (all p m ≡ true)
  all_parts l m e = both (all p l) (all p m) (sym (all_append p l m) ∙ e)

  pub all_more : (l : List A) (i n : ℕ) → all p (take (i + n) l) ≡ (all p (take i l) && all p (take n (drop i l)))
  all_more l i n = rw take-add (all_append p (take i l) (take n (drop i l)))

  pub all_split : (l : List A) (i : ℕ) → all p l ≡ (all p (take i l) && all p (drop i l))
  all_split l i = ap (all p) (sym (take-append-drop i l)) ∙ all_append p (take i l) (drop i l)

  pub all_at : (l : List A) (i : ℕ) (d : A) → all p l ≡ true → i < length l → p (get_or l i d) ≡ true
  unfolding all
  all_at [] i d e h = absurd (omega arith)
  all_at (x ∷ l) zero d e h = (both (p x) (all p l) e).0
  all_at (x ∷ l) (suc i) d e h = all_at l i d (both (p x) (all p l) e).1 (omega arith)

pub all_map : {A B : Type 0} (f : A → B) (p : B → Bool) (r : A → Bool) → ((x : A) → r x ≡ true → p (f x) ≡ true) → (l : List A) → all r l ≡ true
    → all p (map f l) ≡ true
unfolding all
all_map f p r to [] e = refl
all_map f p r to (x ∷ l) e = let b = both (r x) (all r l) e in simp (to x b.0, all_map f p r to l b.1)

pub map_take : {A B : Type 0} (f : A → B) (n : ℕ) (l : List A) → take n (map f l) ≡ map f (take n l)
map_take f zero l = refl
map_take f (suc n) [] = refl
map_take f (suc n) (x ∷ l) = ap (λ m. f x ∷ m) (map_take f n l)
