-- Whole numbers printed in decimal.
use Rattle.std.specs.Prelude.{ℕ, zero, suc, ◌+◌, ◌-◌, ◌/◌, ◌%◌, List, [], ◌∷◌, ◌++◌, cond, ltb}

-- the last k digits of n, or all of them where it has fewer
unfoldable pub decimals : ℕ → ℕ → List ℕ
decimals zero n = []
decimals (suc k) n = let tens = decimals k (n / 10) in cond (ltb n 10) ((48 + n) ∷ []) (tens ++ ((48 + n % 10) ∷ []))

-- the digits of n, which has no more than n + 1
unfoldable pub decimal : ℕ → List ℕ
decimal n = decimals (suc n) n

-- the last k digits of n, with zeros in front where it has fewer
unfoldable pub last_digits : ℕ → ℕ → List ℕ
last_digits zero n = []
last_digits (suc k) n = last_digits k (n / 10) ++ ((48 + n % 10) ∷ [])

-- the whole number a - b: '-' and its size where it is negative
unfoldable pub difference : ℕ → ℕ → List ℕ
difference a b = cond (ltb a b) (45 ∷ decimal (b - a)) (decimal (a - b))
