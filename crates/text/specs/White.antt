-- White space, trimming and tokens (01, Text), all said of the text's characters.
use Rattle.std.specs.Prelude.{ℕ, zero, suc, ◌-◌, Bool, cond, not, ◌&&◌, ◌||◌, length, drop, eqb, Option, Some, None}
use mathlib.Core.List.{List, [], ◌∷◌, map, flatten, reverse}
use Rattle.scan.specs.Lists.{drop_while, tokens_by}
use Rattle.utf8.specs.Utf8.{within, chars, is_char, code_point}

-- Unicode White_Space (01, Text: its list of code points)
unfoldable pub is_white : ℕ → Bool
is_white u =
    within 0x0009 0x000D u
    || eqb u 0x0020
    || eqb u 0x0085
    || eqb u 0x00A0
    || eqb u 0x1680
    || within 0x2000 0x200A u
    || eqb u 0x2028
    || eqb u 0x2029
    || eqb u 0x202F
    || eqb u 0x205F
    || eqb u 0x3000

-- a white character; a byte that begins no character is none
unfoldable pub is_space : List ℕ → Bool
is_space p = is_char p && is_white (code_point p)

-- without the characters at the front that pass the test
unfoldable pub skip : (List ℕ → Bool) → List ℕ → List ℕ
skip p s = flatten (drop_while p (chars s))

-- without those at the end
abbrev pub drop_while_end : {A : Type 0} → (A → Bool) → List A → List A
drop_while_end p l = reverse (drop_while p (reverse l))

-- without the white space at the front, at the end, at both
abbrev pub trim_start : List ℕ → List ℕ
trim_start s = skip is_space s

unfoldable pub trim_end : List ℕ → List ℕ
trim_end s = flatten (drop_while_end is_space (chars s))

unfoldable pub trim : List ℕ → List ℕ
trim s = flatten (drop_while_end is_space (drop_while is_space (chars s)))

-- the path tokens of 01, Text: the runs of characters between white space
abbrev pub tokens : List ℕ → List (List ℕ)
tokens s = map flatten (tokens_by is_space (chars s))

-- what is left behind the token at the front
unfoldable pub after_token : List ℕ → List ℕ
after_token s = skip (λ p. not (is_space p)) s

-- the token at the front of t, which is what is left of s where the white space ends: its start and
-- end in s
abbrev pub token_at : List ℕ → List ℕ → Option (ℕ × ℕ)
token_at s [] = None
token_at s (b ∷ t) = Some (length s - length (b ∷ t), length s - length (after_token (b ∷ t)))

-- the next token at the place i or behind it
unfoldable pub next_token : List ℕ → ℕ → Option (ℕ × ℕ)
next_token s i = token_at s (trim_start (drop i s))

-- how many bytes the first of these characters has where it is white, else 0 (for the functions
-- that look at one end of a text)
unfoldable pub white_len : List (List ℕ) → ℕ
white_len [] = 0
white_len (p ∷ l) = cond (is_space p) (length p) 0

-- a length as the code answers it: None for 0, the length of no character
unfoldable pub unless_zero : ℕ → Option ℕ
unless_zero zero = None
unless_zero (suc n) = Some (suc n)
