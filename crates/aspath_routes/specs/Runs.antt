-- Vec::dedup, where it is asked for: of equal neighbours the first stays.
use Rattle.std.specs.Prelude.{ℕ, List, [], ◌∷◌, Bool, cond, ◌&&◌, eqb}

-- what stays of the numbers behind prev
unfoldable pub after : Bool → ℕ → List ℕ → List ℕ
after dedup prev [] = []
after dedup prev (a ∷ l) = let r = after dedup a l in cond (dedup && eqb a prev) r (a ∷ r)

unfoldable pub runs : Bool → List ℕ → List ℕ
runs dedup [] = []
runs dedup (a ∷ l) = a ∷ after dedup a l
