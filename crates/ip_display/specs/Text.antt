-- Addresses as text: RFC 5952, sections 4 and 5 (01: only ::ffff:0:0/96 has a dotted tail).
use Rattle.std.specs.Prelude.{ℕ, zero, suc, ◌+◌, ◌/◌, ◌%◌, List, [], ◌∷◌, ◌++◌, Bool, cond, ◌&&◌, take, drop, ltb, leb, eqb}
use Rattle.decimal_display.specs.Printed.{decimal}
use Rattle.ip_display.specs.Groups.{groups_of, longest, first_run}

-- four octets with '.' between them
abbrev pub before_dot : ℕ → List ℕ
before_dot o = decimal o ++ (46 ∷ [])

unfoldable pub dotted : ℕ → List ℕ
dotted n = before_dot (n / 16777216 % 256) ++ before_dot (n / 65536 % 256) ++ before_dot (n / 256 % 256) ++ decimal (n % 256)

-- 4.3: 'a' to 'f' in lower case
abbrev pub hex_byte : ℕ → ℕ
hex_byte d = cond (ltb d 10) (48 + d) (87 + d)

-- the last k hexadecimal digits of n, or all of them where it has fewer
unfoldable pub hexes : ℕ → ℕ → List ℕ
hexes zero n = []
hexes (suc k) n = let r = hexes k (n / 16) in cond (ltb n 16) (hex_byte n ∷ []) (r ++ (hex_byte (n % 16) ∷ []))

-- 4.1: a group, of at most four digits, with no leading zero; "0" for zero
unfoldable pub hex : ℕ → List ℕ
hex g = hexes 4 g

-- groups, a ':' before each
unfoldable pub behind_colons : List ℕ → List ℕ
behind_colons [] = []
behind_colons (g ∷ gs) = (58 ∷ []) ++ hex g ++ behind_colons gs

-- groups with a ':' between them
unfoldable pub joined : List ℕ → List ℕ
joined [] = []
joined (g ∷ gs) = hex g ++ behind_colons gs

-- "::" in the place of n groups from the place k on
unfoldable pub shortened : ℕ → ℕ → List ℕ → List ℕ
shortened k n gs = joined (take k gs) ++ (58 ∷ 58 ∷ []) ++ joined (drop (k + n) gs)

-- 4.2: "::" stands for the first longest run of zero groups (4.2.1, 4.2.3), and not for one group alone (4.2.2)
unfoldable pub plain : List ℕ → List ℕ
plain gs = cond (leb 2 (longest gs)) (shortened (first_run (longest gs) gs) (longest gs) gs) (joined gs)

-- in ::ffff:0:0/96
abbrev pub is_mapped : ℕ → ℕ → Bool
is_mapped u l = eqb u 0 && eqb (l / 4294967296) 65535

-- 5: "::ffff:" and the last 32 bits as an IPv4 address
unfoldable pub mapped : ℕ → List ℕ
mapped l = (58 ∷ 58 ∷ 102 ∷ 102 ∷ 102 ∷ 102 ∷ 58 ∷ []) ++ dotted (l % 4294967296)

unfoldable pub ipv6_text : ℕ → ℕ → List ℕ
ipv6_text u l = cond (is_mapped u l) (mapped l) (plain (groups_of u l))
