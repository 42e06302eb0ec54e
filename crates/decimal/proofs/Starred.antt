-- 01's starred numbers: `+7` is 7, 4294967295 is read as a u32 and 4294967296 is not, `-0` is no number.
use Rattle.std.specs.Prelude.{Some, None}
use mathlib.Core.Path.{◌≡◌, refl}
use mathlib.Core.List.{[], ◌∷◌}
use Rattle.decimal.specs.Decimal.{behind, digits, unsigned, read_u32}

pub starred : (read_u32 (43 ∷ 55 ∷ []) ≡ Some 7)
    × (read_u32 (52 ∷ 50 ∷ 57 ∷ 52 ∷ 57 ∷ 54 ∷ 55 ∷ 50 ∷ 57 ∷ 53 ∷ []) ≡ Some 4294967295)
    × (read_u32 (52 ∷ 50 ∷ 57 ∷ 52 ∷ 57 ∷ 54 ∷ 55 ∷ 50 ∷ 57 ∷ 54 ∷ []) ≡ None)
    × (read_u32 (45 ∷ 48 ∷ []) ≡ None)
unfolding unsigned digits behind
starred = (refl, refl, refl, refl)
