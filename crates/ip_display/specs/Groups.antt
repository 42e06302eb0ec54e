-- An IPv6 address as its eight groups of 16 bits, and the runs of zero groups among them.
use Rattle.std.specs.Prelude.{ℕ, suc, ◌+◌, ◌/◌, ◌%◌, max, List, [], ◌∷◌, ◌++◌, cond, leb, eqb}

-- the four groups of a half
abbrev pub quarters : ℕ → List ℕ
quarters x = x / 281474976710656 ∷ x / 4294967296 % 65536 ∷ x / 65536 % 65536 ∷ x % 65536 ∷ []

abbrev pub groups_of : ℕ → ℕ → List ℕ
groups_of u l = quarters u ++ quarters l

-- how many zero groups stand at the front: g and, if it is zero, n more
abbrev pub counted : ℕ → ℕ → ℕ
counted g n = cond (eqb g 0) (n + 1) 0

unfoldable pub zeros : List ℕ → ℕ
zeros [] = 0
zeros (g ∷ gs) = counted g (zeros gs)

-- the length of the longest run of zero groups
unfoldable pub longest : List ℕ → ℕ
longest [] = 0
longest (g ∷ gs) = let r = longest gs in max (zeros (g ∷ gs)) r

-- the place of the first run of at least n zero groups
unfoldable pub first_run : ℕ → List ℕ → ℕ
first_run n [] = 0
first_run n (g ∷ gs) = let r = first_run n gs in cond (leb n (zeros (g ∷ gs))) 0 (suc r)
