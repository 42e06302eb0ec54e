-- Byte strings compared and searched for.
use Rattle.std.specs.Prelude.{ℕ, ◌+◌, Bool, true, false, cond, ◌&&◌, List, [], ◌∷◌, length, take, eqb, Option, Some, None}

-- byte for byte the same
unfoldable pub equal : List ℕ → List ℕ → Bool
equal [] [] = true
equal [] (y ∷ b) = false
equal (x ∷ a) [] = false
equal (x ∷ a) (y ∷ b) = eqb x y && equal a b

-- the first bytes of s, as many as p has, are p
abbrev pub starts_with : List ℕ → List ℕ → Bool
starts_with s p = equal (take (length p) s) p

-- the first place at which p stands in s, where s is what a text holds from the place i on
unfoldable pub find_from : ℕ → List ℕ → List ℕ → Option ℕ
find_from i [] p = cond (starts_with [] p) (Some i) None
find_from i (x ∷ s) p = let r = find_from (i + 1) s p in cond (starts_with (x ∷ s) p) (Some i) r

abbrev pub find_in : List ℕ → List ℕ → Option ℕ
find_in s p = find_from 0 s p
