-- The numbers of a record, by segment.
use Rattle.std.specs.Prelude.{ℕ, ◌-◌, ◌≤◌, ◌≡◌, List, [], ◌∷◌, ◌++◌, map, length, take, drop, replicate}
use Rattle.sort.specs.Dedup.{dedup, dedup_after}
use Rattle.aspath.specs.Lists.{concat_of}
use Rattle.aspath_normal.specs.Layout.{padded}

-- the numbers kept of `first` and those from j on
abbrev pub kept_from : List ℕ → ℕ → ℕ → List ℕ
kept_from t first j = first ∷ dedup_after first (drop j t)

-- `first` stands at the front, and zeros up to j
pub record FirstKept (t : List ℕ) (first j : ℕ) : Type 0 where
  pub order : 1 ≤ j
  pub within : j ≤ length t
  pub front : t ≡ first ∷ (replicate (j - 1) 0 ++ drop j t)

-- the numbers cut by the lengths of segments
unfoldable pub parts : List ℕ → List ℕ → List (List ℕ)
parts [] ns = []
parts (l ∷ ls) ns = take l ns ∷ parts ls (drop l ns)

abbrev pub concat : List (List ℕ) → List ℕ
concat = concat_of (λ l. l)

-- repeats were removed from each part, in place; r numbers are left
pub record Deduped (ls ns ls' ns' : List ℕ) (r : ℕ) : Type 0 where
  pub count : r ≡ length (concat (map dedup (parts ls ns)))
  pub lengths : ls' ≡ map length (map dedup (parts ls ns))
  pub numbers : ns' ≡ padded (length ns) (concat (map dedup (parts ls ns)))
