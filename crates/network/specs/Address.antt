-- Addresses in text: IPv4, else IPv6.
use Rattle.std.specs.Prelude.{ℕ, List, Option, Some, None}
use Rattle.ipv4.specs.Ipv4.{ipv4}
use Rattle.ipv6.specs.Ipv6.{ipv6, upper, lower}
use Rattle.network.specs.declared.IpAddr.{IpAddr}
use Rattle.network.specs.declared.IpAddr.TheVariants.{V4, V6}

-- IPv4 first
abbrev pub either : Option ℕ → Option (List ℕ) → Option IpAddr
either (Some n) m = Some (V4 n)
either None (Some gs) = Some (V6 (upper gs) (lower gs))
either None None = None

unfoldable pub address : List ℕ → Option IpAddr
address s = either (ipv4 s) (ipv6 s)

abbrev pub read_address : List ℕ → Option IpAddr
read_address s = address s
