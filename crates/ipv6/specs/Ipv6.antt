-- IPv6 addresses in text (RFC 4291, 2.2; 01, Text, numbers, addresses), as their eight groups of 16 bits. No zone.
use Rattle.std.specs.Prelude.{ℕ, suc, ◌+◌, ◌-◌, ◌/◌, ◌%◌, List, [], ◌∷◌, ◌++◌, Bool, true, false, cond, ◌&&◌, length, get_or, take, drop, replicate, ltb, leb, eqb, Option, Some, None}
use Rattle.ipv4.specs.Parts.{parts, prepend, each, number}
use Rattle.ipv4.specs.Ipv4.{ipv4}

-- '0' to '9', 'A' to 'F', 'a' to 'f'
unfoldable pub hex_digit : ℕ → Option ℕ
hex_digit b =
    cond (leb 48 b && leb b 57) (Some (b - 48))
    (cond (leb 65 b && leb b 70) (Some (b - 55))
    (cond (leb 97 b && leb b 102) (Some (b - 87)) None))

-- the digits ds to the base k behind v, if they are there
abbrev pub value_from : ℕ → ℕ → Option (List ℕ) → Option ℕ
value_from k v (Some ds) = Some (number k v ds)
value_from k v None = None

-- 2.2 (1): a group of 1 to 4 hexadecimal digits
unfoldable pub group : List ℕ → Option ℕ
group p = cond (leb 1 (length p) && leb (length p) 4) (value_from 16 0 (each hex_digit p)) None

-- 2.2 (3): an IPv4 address is two groups
abbrev pub two_groups : Option ℕ → Option (List ℕ)
two_groups (Some n) = Some (n / 65536 ∷ n % 65536 ∷ [])
two_groups None = None

-- the last part: a group, or where that is allowed an IPv4 address
abbrev pub last_part : Bool → Option ℕ → Option ℕ → Option (List ℕ)
last_part dotted (Some g) a = Some (g ∷ [])
last_part true None a = two_groups a
last_part false None a = None

-- the parts between colons, each a group but the last
unfoldable pub groups : Bool → List (List ℕ) → Option (List ℕ)
groups dotted [] = Some []
groups dotted (p ∷ []) = last_part dotted (group p) (ipv4 p)
groups dotted (p ∷ q ∷ ps) = prepend (group p) (groups dotted (q ∷ ps))

-- the groups between single colons; no text, no group
unfoldable pub side : Bool → List ℕ → Option (List ℕ)
side dotted [] = Some []
side dotted (b ∷ s) = groups dotted (parts 58 (b ∷ s))

-- the place of the first "::"; the length where there is none
unfoldable pub gap : List ℕ → ℕ
gap [] = 0
gap (b ∷ s) = let r = gap s in cond (eqb b 58 && eqb (get_or s 0 0) 58) 0 (suc r)

-- 2.2 (2): "::" stands for the zero groups that are missing, at least one (01)
abbrev pub filled : Option (List ℕ) → Option (List ℕ) → Option (List ℕ)
filled (Some l) (Some r) = cond (leb (length l + length r) 7) (Some (l ++ (replicate (8 - length r - length l) 0 ++ r))) None
filled (Some l) None = None
filled None m = None

abbrev pub eight : Option (List ℕ) → Option (List ℕ)
eight (Some gs) = cond (eqb (length gs) 8) (Some gs) None
eight None = None

-- the eight groups; left of "::" there is no dotted part
unfoldable pub ipv6 : List ℕ → Option (List ℕ)
ipv6 s = cond (ltb (gap s) (length s)) (filled (side false (take (gap s) s)) (side true (drop (gap s + 2) s))) (eight (side true s))

-- the upper and the lower half
abbrev pub upper : List ℕ → ℕ
upper gs = number 65536 0 (take 4 gs)

abbrev pub lower : List ℕ → ℕ
lower gs = number 65536 0 (drop 4 gs)

abbrev pub as_ipv6 : Option (List ℕ) → Option (ℕ × ℕ)
as_ipv6 (Some gs) = Some (upper gs, lower gs)
as_ipv6 None = None

abbrev pub read_ipv6 : List ℕ → Option (ℕ × ℕ)
read_ipv6 s = as_ipv6 (ipv6 s)
