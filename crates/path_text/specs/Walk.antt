-- The walk over a path's AS numbers, for the functions that take a step of it.
use Rattle.std.specs.Prelude.{ℕ, ◌≤◌, ◌<◌, ◌≡◌, Bool, false, not, List, [], ◌∷◌, length, drop, Option, Some, None}
use Rattle.decimal.specs.Decimal.{is_digit}
use Rattle.text.specs.White.{tokens}
use Rattle.path_text.specs.Path.{if_number, numbers}

-- the AS numbers from the place i on
abbrev pub asns_from : List ℕ → ℕ → List ℕ
asns_from s i = numbers (tokens (drop i s))

-- e is a place behind i
pub record Steps (s : List ℕ) (i e : ℕ) : Type 0 where
  pub later : i < e
  pub inside : e ≤ length s

-- the next of them is x, and the place e is behind it
abbrev pub Takes : List ℕ → ℕ → ℕ → ℕ → Type 0
Takes s i x e = Steps s i e × (asns_from s i ≡ x ∷ asns_from s e)

-- what is told of a plain number; of others nothing is
abbrev pub IsPlain : List ℕ → ℕ → Option (ℕ × ℕ) → Type 0
IsPlain s i (Some t) = Takes s i t.0 t.1
IsPlain s i None = Unit {0}

-- what is told of the next token: its number, if it is one, is the next of them, and the place e is
-- behind it; at the path's end none are left
abbrev pub Finds : List ℕ → ℕ → Option (Option ℕ × ℕ) → Type 0
Finds s i (Some t) = Steps s i t.1 × (asns_from s i ≡ if_number t.0 (asns_from s t.1))
Finds s i None = asns_from s i ≡ []

-- one byte that is no digit
unfoldable pub lone : List ℕ → Bool
lone [] = false
lone (b ∷ []) = not (is_digit b)
lone (b ∷ c ∷ s) = false
