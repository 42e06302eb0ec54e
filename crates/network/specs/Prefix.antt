-- Prefixes in text (01, Text, numbers, addresses): address, '/', length; host bits kept.
use Rattle.std.specs.Prelude.{ℕ, suc, ◌+◌, List, [], ◌∷◌, Bool, cond, length, take, drop, ltb, leb, eqb, Option, Some, None}
use Rattle.decimal.specs.Decimal.{digits, below}
use Rattle.network.specs.Address.{address}
use Rattle.network.specs.declared.IpAddr.{IpAddr}
use Rattle.network.specs.declared.IpAddr.TheVariants.{V4, V6}
use Rattle.network.specs.declared.NetworkPrefix.{NetworkPrefix}

-- the place of the last c; the length where there is none
unfoldable pub last_place : ℕ → List ℕ → ℕ
last_place c [] = 0
last_place c (b ∷ s) = let r = last_place c s in cond (ltb r (length s)) (suc r) (cond (eqb b c) 0 (suc r))

-- at most w digits, at least one, and at most the number m
unfoldable pub length_of : ℕ → ℕ → List ℕ → Option ℕ
length_of w m t = cond (leb (length t) w) (below (m + 1) (digits t)) None

-- 1 or 2 digits, at most 32; 1 to 3 digits, at most 128
abbrev pub length_for : IpAddr → List ℕ → Option ℕ
length_for (V4 n) t = length_of 2 32 t
length_for (V6 u l) t = length_of 3 128 t

abbrev pub with_length : IpAddr → Option ℕ → Option NetworkPrefix
with_length a (Some n) = Some (record { addr = a; len = n })
with_length a None = None

abbrev pub prefix_of : Option IpAddr → List ℕ → Option NetworkPrefix
prefix_of (Some a) t = with_length a (length_for a t)
prefix_of None t = None

-- what stands before and behind the last '/'
unfoldable pub prefix : List ℕ → Option NetworkPrefix
prefix s = cond (ltb (last_place 47 s) (length s)) (prefix_of (address (take (last_place 47 s) s)) (drop (last_place 47 s + 1) s)) None

abbrev pub read_prefix : List ℕ → Option NetworkPrefix
read_prefix s = prefix s

-- a prefix that a text can stand for: at most 32, at most 128
abbrev pub bits : IpAddr → ℕ
bits (V4 n) = 32
bits (V6 u l) = 128

abbrev pub valid_prefix : NetworkPrefix → Bool
valid_prefix p = leb p.len (bits p.addr)
