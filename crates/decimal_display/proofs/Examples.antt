-- Numbers printed.
use mathlib.Core.Path.{◌≡◌, refl}
use mathlib.Core.List.{[], ◌∷◌}
use Rattle.decimal_display.specs.Printed.{decimals, decimal, difference}

-- 0 is `0`, 10 is `10`, 2 ^ 64 - 1 has its twenty digits, and 5 - 12 is `-7`.
pub printed : (decimal 0 ≡ 48 ∷ [])
    × (decimal 10 ≡ 49 ∷ 48 ∷ [])
    × (decimal 18446744073709551615 ≡ 49 ∷ 56 ∷ 52 ∷ 52 ∷ 54 ∷ 55 ∷ 52 ∷ 52 ∷ 48 ∷ 55 ∷ 51 ∷ 55 ∷ 48 ∷ 57 ∷ 53 ∷ 53 ∷ 49 ∷ 54 ∷ 49 ∷ 53 ∷ [])
    × (difference 5 12 ≡ 45 ∷ 55 ∷ [])
unfolding decimal decimals difference
printed = (refl, refl, refl, refl)
