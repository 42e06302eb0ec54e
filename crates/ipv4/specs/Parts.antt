-- A text cut at a byte, and what is read of its parts.
use Rattle.std.specs.Prelude.{ℕ, ◌+◌, ◌*◌, List, [], ◌∷◌, cond, eqb, Option, Some, None}
use Rattle.scan.specs.Lists.{split_by}

-- the parts of s between the bytes c: one more than it has bytes c
abbrev pub parts : ℕ → List ℕ → List (List ℕ)
parts c s = split_by (λ b. eqb b c) s

-- the first of them: what stands before the first c
unfoldable pub before : ℕ → List ℕ → List ℕ
before c [] = []
before c (b ∷ s) = let r = before c s in cond (eqb b c) [] (b ∷ r)

-- in front of the others, if all are there
abbrev pub prepend : {A : Type 0} → Option A → Option (List A) → Option (List A)
prepend (Some x) (Some xs) = Some (x ∷ xs)
prepend (Some x) None = None
prepend None m = None

-- what f reads of each; none where it reads nothing of one
unfoldable pub each : {A B : Type 0} → (A → Option B) → List A → Option (List B)
each f [] = Some []
each f (x ∷ xs) = prepend (f x) (each f xs)

-- the number that the digits ds to the base k make when they are written behind those of v
unfoldable pub number : ℕ → ℕ → List ℕ → ℕ
number k v [] = v
number k v (d ∷ ds) = number k (v * k + d) ds
