-- What is written of lists in an answer.
use Rattle.std.specs.Prelude.{ℕ, ◌+◌, ◌/◌, ◌%◌, List, [], ◌∷◌, ◌++◌, cond, nat_lt}
use Rattle.decimal_display.specs.Printed.{decimal}

-- the items' texts, one after another
unfoldable pub each : (ℕ → List ℕ) → List ℕ → List ℕ
each text [] = []
each text (x ∷ l) = text x ++ each text l

-- a number after the mark
abbrev pub marked : List ℕ → ℕ → List ℕ
marked mark n = mark ++ decimal n

abbrev pub hex_digit : ℕ → ℕ
hex_digit d = cond (nat_lt d 10) (48 + d) (87 + d)

-- a byte's two digits
abbrev pub hex_pair : ℕ → List ℕ
hex_pair b = hex_digit (b / 16) ∷ hex_digit (b % 16) ∷ []

-- '-' for no bytes
abbrev pub in_hex : List ℕ → List ℕ
in_hex [] = 45 ∷ []
in_hex (b ∷ l) = each hex_pair (b ∷ l)
