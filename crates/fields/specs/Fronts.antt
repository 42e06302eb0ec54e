-- What the quick ways may say: that an octet, an address, a length stands at a place. Where they
-- say nothing, nothing is known.
use Rattle.std.specs.Prelude.{◌≡◌, ℕ, ◌+◌, ◌-◌, ◌<◌, ◌≤◌, Bool, true, List, length, take, ◌==◌, slice_index, slice_index_or, Some}
use Rattle.std.proofs.Math.Seq.{slice}
use Rattle.decimal.specs.Decimal.{is_digit}
use Rattle.ipv4.specs.Ipv4.{octet, ipv4}
use Rattle.network.specs.Prefix.{length_of}

-- the space that columns are filled with
abbrev pub is_blank : ℕ → Bool
is_blank b = b == 32

-- the bytes of s from a up to e are there, and the first and the last of them are digits
pub record DigitsAround (s : List ℕ) (a e : ℕ) : Type 0 where
  pub some_byte : a < e
  pub inside : e ≤ length s
  pub first : is_digit (slice_index s a) ≡ true
  pub last : is_digit (slice_index s (e - 1)) ≡ true

-- the octet v stands there
pub record OctetAt (s : List ℕ) (a e v : ℕ) : Type 0 where
  pub around : DigitsAround s a e
  pub short : e ≤ a + 3
  pub value : octet (slice a e s) ≡ Some v

-- the address v stands at the front, up to e
pub record AddressTo (s : List ℕ) (e v : ℕ) : Type 0 where
  pub around : DigitsAround s 0 e
  pub value : ipv4 (take e s) ≡ Some v

-- a '/' stands at a, and behind it up to f the length n
pub record BitsAt (s : List ℕ) (a f n : ℕ) : Type 0 where
  pub mark : slice_index_or s a 0 ≡ 47
  pub around : DigitsAround s (a + 1) f
  pub value : length_of 2 32 (slice (a + 1) f s) ≡ Some n
