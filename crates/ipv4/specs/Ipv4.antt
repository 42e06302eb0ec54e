-- IPv4 addresses in text (01, Text, numbers, addresses): four octets of 1 to 3 digits, at most 255, no leading zero.
use Rattle.std.specs.Prelude.{ℕ, List, Bool, cond, not, ◌&&◌, length, get_or, ltb, leb, eqb, Option, Some, None}
use Rattle.decimal.specs.Decimal.{digits, below}
use Rattle.ipv4.specs.Parts.{parts, before, each, number}

-- a '0' with digits behind it
abbrev pub leading_zero : List ℕ → Bool
leading_zero p = ltb 1 (length p) && eqb (get_or p 0 0) 48

-- 1 to 3 digits, at most 255
unfoldable pub octet : List ℕ → Option ℕ
octet p = cond (leb (length p) 3 && not (leading_zero p)) (below 256 (digits p)) None

-- four octets, as a number
abbrev pub four : Option (List ℕ) → Option ℕ
four (Some os) = cond (eqb (length os) 4) (Some (number 256 0 os)) None
four None = None

-- with '.' between them
unfoldable pub ipv4 : List ℕ → Option ℕ
ipv4 s = four (each octet (parts 46 s))

abbrev pub read_ipv4 : List ℕ → Option ℕ
read_ipv4 s = ipv4 s

-- the code's own: an octet with the place behind it
abbrev pub placed : Option ℕ → ℕ → Option (ℕ × ℕ)
placed (Some v) e = Some (v, e)
placed None e = None

-- the octet at the front of t, up to a '.' or the end
abbrev pub first_octet : List ℕ → Option (ℕ × ℕ)
first_octet t = placed (octet (before 46 t)) (length (before 46 t))
