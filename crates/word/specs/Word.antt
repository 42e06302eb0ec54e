-- Bytes as a number, the lowest byte first, and words of 64 bits as bytes.
use Rattle.std.specs.Prelude.{ℕ, zero, suc, ◌+◌, ◌*◌, ◌/◌, ◌%◌, List, [], ◌∷◌}

-- the number that bytes are
unfoldable pub number : List ℕ → ℕ
number [] = 0
number (b ∷ s) = b + 256 * number s

-- v in n bytes and a last one, in which all stands that is left: with seven and the last, a byte for every v below 2 ^ 64
unfoldable pub bytes : ℕ → ℕ → List ℕ
bytes zero v = v ∷ []
bytes (suc n) v = v % 256 ∷ bytes n (v / 256)

-- the eight bytes of a word
abbrev pub little_endian : ℕ → List ℕ
little_endian v = bytes 7 v
