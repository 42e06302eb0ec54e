-- Folds over a list, by which the operations on a path are said.
use Rattle.std.specs.Prelude.{ℕ, ◌+◌, ◌*◌, List, [], ◌∷◌, ◌++◌, Bool, false, ◌||◌}

-- f of each element, joined by ⊕ in the order of the list; e of none
unfoldable pub fold_map : {A B : Type 0} → (B → B → B) → B → (A → B) → List A → B
fold_map op e f [] = e
fold_map op e f (x ∷ l) = op (f x) (fold_map op e f l)

-- f holds of some element
abbrev pub any : {A : Type 0} → (A → Bool) → List A → Bool
any = fold_map ◌||◌ false

abbrev pub sum_of : {A : Type 0} → (A → ℕ) → List A → ℕ
sum_of = fold_map ◌+◌ 0

abbrev pub product_of : {A : Type 0} → (A → ℕ) → List A → ℕ
product_of = fold_map ◌*◌ 1

abbrev pub concat_of : {A B : Type 0} → (A → List B) → List A → List B
concat_of = fold_map ◌++◌ []

abbrev pub sum : List ℕ → ℕ
sum = sum_of (λ n. n)
