-- What is said of each of a list.
use Rattle.std.specs.Prelude.{List, [], ◌∷◌}

-- each of a list has the property
abbrev pub Each : {A : Type 0} → (A → Type 0) → List A → Type 0
Each Q [] = Unit {0}
Each Q (x ∷ l) = Q x × Each Q l
