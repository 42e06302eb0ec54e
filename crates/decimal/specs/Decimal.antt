-- Decimal numbers in text (01, Text, numbers, addresses): an optional '+', at least one digit, no overflow; leading zeros allowed.
use Rattle.std.specs.Prelude.{ℕ, ◌+◌, ◌-◌, ◌*◌, ◌^◌, List, [], ◌∷◌, Bool, cond, ◌&&◌, length, drop, ltb, leb, eqb, Option, Some, None}
use Rattle.decimal.specs.declared.FirstDigits.{FirstDigits}
use Rattle.word.specs.Word.{little_endian}

-- '0' to '9'
abbrev pub is_digit : ℕ → Bool
is_digit b = leb 48 b && leb b 57

-- the number that the digits s make when they are written behind those of v; none where a byte of s is no digit
unfoldable pub behind : ℕ → List ℕ → Option ℕ
behind v [] = Some v
behind v (b ∷ s) = let r = behind (v * 10 + (b - 48)) s in cond (is_digit b) r None

-- at least one digit: the number, however large
unfoldable pub digits : List ℕ → Option ℕ
digits [] = None
digits (b ∷ s) = behind 0 (b ∷ s)

-- an optional '+' in front
unfoldable pub unsigned : List ℕ → Option ℕ
unsigned [] = None
unsigned (b ∷ s) = cond (eqb b 43) (digits s) (digits (b ∷ s))

-- no overflow: only a number below k
abbrev pub below : ℕ → Option ℕ → Option ℕ
below k (Some n) = cond (ltb n k) (Some n) None
below k None = None

-- digits alone, read as a u64
abbrev pub read_digits : List ℕ → Option ℕ
read_digits s = below (2 ^ 64) (digits s)

-- the text read as a u32, and as a u64
abbrev pub read_u32 : List ℕ → Option ℕ
read_u32 s = below (2 ^ 32) (unsigned s)

abbrev pub read_u64 : List ℕ → Option ℕ
read_u64 s = below (2 ^ 64) (unsigned s)

-- the digits at the front, for texts that are read up to where their digits end
unfoldable pub leading : List ℕ → List ℕ
leading [] = []
leading (b ∷ s) = let r = leading s in cond (is_digit b) (b ∷ r) []

abbrev pub or_zero : Option ℕ → ℕ
or_zero (Some n) = n
or_zero None = 0

-- those from the place i on, where they are at most nine: what they make (0 where there are none), and the place behind them
unfoldable pub digits_at : List ℕ → ℕ → Option (ℕ × ℕ)
digits_at s i = let d = leading (drop i s) in cond {A = Option (ℕ × ℕ)} (leb (length d) 9) (Some (or_zero (behind 0 d), i + length d)) None

-- those of a word's eight bytes: how many, and what they make; none where the first is no digit
unfoldable pub first_digits : ℕ → Option FirstDigits
first_digits w = let d = leading (little_endian w) in cond {A = Option FirstDigits} (eqb (length d) 0) None (Some (record { count = length d; value = or_zero (behind 0 d) }))

-- the highest bit for a byte that is no digit
abbrev pub mark : ℕ → ℕ
mark b = cond (is_digit b) 0 128

-- the number that digits make behind v, each given as a number below 10
unfoldable pub placed : ℕ → List ℕ → ℕ
placed v [] = v
placed v (d ∷ s) = placed (v * 10 + d) s
