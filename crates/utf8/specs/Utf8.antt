-- UTF-8 (RFC 3629), said of any bytes. Of a byte past the end 0 is read, which is no UTF8-tail.
use Rattle.std.specs.Prelude.{ℕ, zero, suc, ◌+◌, ◌-◌, ◌*◌, ◌/◌, ◌%◌, max, Bool, cond, ◌&&◌, ◌||◌, get_or, take, leb, ltb, eqb}
use mathlib.Core.List.{List, [], ◌∷◌, map, flatten}
-- every element passes the test
unfoldable pub use Rattle.scan.specs.Lists.{all}

-- %xLO-HI
abbrev pub within : ℕ → ℕ → ℕ → Bool
within lo hi x = leb lo x && leb x hi

-- UTF8-1 = %x00-7F (RFC 3629, 4; so the next four)
abbrev pub is_one : ℕ → Bool
is_one a = leb a 0x7F

-- UTF8-tail = %x80-BF
abbrev pub is_tail : ℕ → Bool
is_tail b = within 0x80 0xBF b

-- UTF8-2 = %xC2-DF UTF8-tail
abbrev pub is_two : ℕ → ℕ → Bool
is_two a b = within 0xC2 0xDF a && is_tail b

-- UTF8-3 = %xE0 %xA0-BF UTF8-tail / %xE1-EC 2( UTF8-tail ) / %xED %x80-9F UTF8-tail / %xEE-EF 2(
-- UTF8-tail )
abbrev pub is_three : ℕ → ℕ → ℕ → Bool
is_three a b c =
    eqb a 0xE0 && within 0xA0 0xBF b && is_tail c
    || within 0xE1 0xEC a && is_tail b && is_tail c
    || eqb a 0xED && within 0x80 0x9F b && is_tail c
    || within 0xEE 0xEF a && is_tail b && is_tail c

-- UTF8-4 = %xF0 %x90-BF 2( UTF8-tail ) / %xF1-F3 3( UTF8-tail ) / %xF4 %x80-8F 2( UTF8-tail )
abbrev pub is_four : ℕ → ℕ → ℕ → ℕ → Bool
is_four a b c d =
    eqb a 0xF0 && within 0x90 0xBF b && is_tail c && is_tail d
    || within 0xF1 0xF3 a && is_tail b && is_tail c && is_tail d
    || eqb a 0xF4 && within 0x80 0x8F b && is_tail c && is_tail d

-- UTF8-char = UTF8-1 / UTF8-2 / UTF8-3 / UTF8-4: how many bytes the one at the front of s has; 0
-- where there is none
unfoldable pub char_len : List ℕ → ℕ
char_len [] = 0
char_len (a ∷ s) =
    cond (is_one a) 1
    (cond (is_two a (get_or s 0 0)) 2
    (cond (is_three a (get_or s 0 0) (get_or s 1 0)) 3
    (cond (is_four a (get_or s 0 0) (get_or s 1 0) (get_or s 2 0)) 4 0)))

-- the character at the front, or the one byte there that begins none: how many bytes
abbrev pub piece_len : List ℕ → ℕ
piece_len s = max 1 (char_len s)

-- the characters that begin at the place n or behind it, each its bytes; a byte that begins none
-- stands alone
unfoldable pub chars_from : ℕ → List ℕ → List (List ℕ)
chars_from n [] = []
chars_from zero (b ∷ s) = let l = chars_from (piece_len (b ∷ s) - 1) s in take (piece_len (b ∷ s)) (b ∷ s) ∷ l
chars_from (suc n) (b ∷ s) = chars_from n s

-- a text cut into its characters; joined they are the text, whatever its bytes
abbrev pub chars : List ℕ → List (List ℕ)
chars s = chars_from 0 s

-- one of these is a UTF8-char, and no byte that begins none
abbrev pub is_char : List ℕ → Bool
is_char p = ltb 0 (char_len p)

-- UTF8-octets = *( UTF8-char ). Readable is 01's term for a line that is UTF-8
abbrev pub readable : List ℕ → Bool
readable s = all is_char (chars s)

-- a Unicode scalar value: every code point but the surrogates (RFC 3629, 3)
abbrev pub is_scalar : ℕ → Bool
is_scalar c = within 0 0xD7FF c || within 0xE000 0x10FFFF c

-- the bytes of a scalar value by the table of RFC 3629, 3
unfoldable pub encode : ℕ → List ℕ
encode c =
    cond (leb c 0x7F) (c ∷ [])
    (cond (leb c 0x7FF) ((0xC0 + c / 64) ∷ (0x80 + c % 64) ∷ [])
    (cond (leb c 0xFFFF) ((0xE0 + c / 4096) ∷ (0x80 + c / 64 % 64) ∷ (0x80 + c % 64) ∷ [])
    ((0xF0 + c / 262144) ∷ (0x80 + c / 4096 % 64) ∷ (0x80 + c / 64 % 64) ∷ (0x80 + c % 64) ∷ [])))

-- the code point of a character: the bits marked x in that table, in a row
unfoldable pub code_point : List ℕ → ℕ
code_point [] = 0
code_point (a ∷ []) = a
code_point (a ∷ b ∷ []) = a % 32 * 64 + b % 64
code_point (a ∷ b ∷ c ∷ []) = (a % 16 * 64 + b % 64) * 64 + c % 64
code_point (a ∷ b ∷ c ∷ d ∷ s) = ((a % 8 * 64 + b % 64) * 64 + c % 64) * 64 + d % 64

-- the text of a list of scalar values, and the code points of a text
abbrev pub encode_all : List ℕ → List ℕ
encode_all cs = flatten (map encode cs)

abbrev pub decode : List ℕ → List ℕ
decode s = map code_point (chars s)
