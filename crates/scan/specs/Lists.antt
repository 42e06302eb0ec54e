-- Lists cut by a test of their elements.
use Rattle.std.specs.Prelude.{ℕ, ◌+◌, Bool, true, false, cond, ◌&&◌, ◌||◌, List, [], ◌∷◌, length, drop}

-- an element put in front of the first list
unfoldable pub onto : {A : Type 0} → A → List (List A) → List (List A)
onto x [] = (x ∷ []) ∷ []
onto x (w ∷ l) = (x ∷ w) ∷ l

-- the lists that are not empty
unfoldable pub non_empty : {A : Type 0} → List (List A) → List (List A)
non_empty [] = []
non_empty ([] ∷ l) = non_empty l
non_empty ((x ∷ w) ∷ l) = (x ∷ w) ∷ non_empty l

module _ {A : Type 0} (p : A → Bool) where
  -- every element passes the test
  unfoldable pub all : List A → Bool
  all [] = true
  all (x ∷ s) = let r = all s in p x && r

  -- whether an element passes (mathlib's `any` is shut: it computes nowhere outside its module)
  unfoldable pub any_of : List A → Bool
  any_of [] = false
  any_of (x ∷ s) = p x || any_of s

  -- the longest front whose elements all pass, and what is behind it
  unfoldable pub take_while : List A → List A
  take_while [] = []
  take_while (x ∷ s) = let r = take_while s in cond (p x) (x ∷ r) []

  unfoldable pub drop_while : List A → List A
  drop_while [] = []
  drop_while (x ∷ s) = let r = drop_while s in cond (p x) r (x ∷ s)

  -- where the elements that pass end, from the place i on
  abbrev pub end_while : List A → ℕ → ℕ
  end_while s i = i + length (take_while (drop i s))

  -- the pieces between the elements that pass, empty ones too
  unfoldable pub split_by : List A → List (List A)
  split_by [] = [] ∷ []
  split_by (x ∷ s) = let r = split_by s in cond (p x) ([] ∷ r) (onto x r)

  -- the pieces that are not empty
  abbrev pub tokens_by : List A → List (List A)
  tokens_by s = non_empty (split_by s)
