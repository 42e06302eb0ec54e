-- The code's own record of groups: how many are read, and the two halves that they make. A group goes to the upper half while there are fewer than four.
use Rattle.std.specs.Prelude.{ℕ, suc, ◌+◌, ◌*◌, ◌%◌, List, [], ◌∷◌, cond, length, ltb, leb, eqb, Option, Some, None}
use Rattle.ipv6.specs.declared.Groups.{Groups}

abbrev pub no_groups : Groups
no_groups = record { n = 0; upper = 0; lower = 0 }

-- one group more in a half; what does not fit falls out at the top
abbrev pub shifted : ℕ → ℕ → ℕ
shifted x g = x % 281474976710656 * 65536 + g

unfoldable pub push : Groups → ℕ → Groups
push r g = cond (ltb r.n 4) (record { n = r.n + 1; upper = shifted r.upper g; lower = r.lower }) (record { n = r.n + 1; upper = r.upper; lower = shifted r.lower g })

unfoldable pub push_all : Groups → List ℕ → Groups
push_all r [] = r
push_all r (g ∷ gs) = push_all (push r g) gs

-- groups after those of r, none where they are more than eight in all; with none to add r is as it was
abbrev pub with_groups : Groups → Option (List ℕ) → Option Groups
with_groups r (Some []) = Some r
with_groups r (Some (g ∷ gs)) = cond (leb (r.n + suc (length gs)) 8) (Some (push_all r (g ∷ gs))) None
with_groups r None = None

abbrev pub whole_of : Groups → Option (ℕ × ℕ)
whole_of r = cond {A = Option (ℕ × ℕ)} (eqb r.n 8) (Some (r.upper, r.lower)) None
