-- The starred cases of 01, One listing, that speak of addresses and prefixes.
use Rattle.std.specs.Prelude.{Some, None}
use mathlib.Core.Path.{◌≡◌, refl}
use mathlib.Core.List.{[], ◌∷◌}
use Rattle.decimal.specs.Decimal.{behind, digits}
use Rattle.decimal_display.specs.Printed.{decimals, decimal}
use Rattle.scan.specs.Lists.{split_by, onto}
use Rattle.ipv4.specs.Parts.{before, each, number}
use Rattle.ipv4.specs.Ipv4.{octet, ipv4}
use Rattle.ipv6.specs.Ipv6.{hex_digit, group, groups, side, gap, ipv6}
use Rattle.network.specs.Address.{address}
use Rattle.network.specs.Prefix.{last_place, length_of, prefix}
use Rattle.network.specs.declared.IpAddr.TheVariants.{V4, V6}
use Rattle.ip_display.specs.Groups.{zeros, longest, first_run}
use Rattle.ip_display.specs.Text.{dotted, hexes, hex, behind_colons, joined, shortened, plain, mapped, ipv6_text}
use Rattle.network_display.specs.Text.{address_text, prefix_text}

-- `192.0.02.1` is no address; `1:2:3:4:5:6:7::` is one that prints `1:2:3:4:5:6:7:0`; `0:0:1::` prints itself;
-- `10.1.2.3/8` keeps its host bits; `10.0.0.0` is no prefix
pub starred : (address (49 ∷ 57 ∷ 50 ∷ 46 ∷ 48 ∷ 46 ∷ 48 ∷ 50 ∷ 46 ∷ 49 ∷ []) ≡ None)
    × (address (49 ∷ 58 ∷ 50 ∷ 58 ∷ 51 ∷ 58 ∷ 52 ∷ 58 ∷ 53 ∷ 58 ∷ 54 ∷ 58 ∷ 55 ∷ 58 ∷ 58 ∷ []) ≡ Some (V6 281483566841860 1407400653815808))
    × (address_text (V6 281483566841860 1407400653815808) ≡ 49 ∷ 58 ∷ 50 ∷ 58 ∷ 51 ∷ 58 ∷ 52 ∷ 58 ∷ 53 ∷ 58 ∷ 54 ∷ 58 ∷ 55 ∷ 58 ∷ 48 ∷ [])
    × (address (48 ∷ 58 ∷ 48 ∷ 58 ∷ 49 ∷ 58 ∷ 58 ∷ []) ≡ Some (V6 65536 0))
    × (address_text (V6 65536 0) ≡ 48 ∷ 58 ∷ 48 ∷ 58 ∷ 49 ∷ 58 ∷ 58 ∷ [])
    × (prefix (49 ∷ 48 ∷ 46 ∷ 49 ∷ 46 ∷ 50 ∷ 46 ∷ 51 ∷ 47 ∷ 56 ∷ []) ≡ Some (record { addr = V4 167838211; len = 8 }))
    × (prefix (49 ∷ 48 ∷ 46 ∷ 48 ∷ 46 ∷ 48 ∷ 46 ∷ 48 ∷ []) ≡ None)
unfolding behind digits decimals decimal split_by onto before each number octet ipv4 hex_digit group groups side gap ipv6 address last_place length_of prefix zeros longest first_run dotted hexes hex behind_colons joined shortened plain mapped ipv6_text address_text prefix_text
starred = (refl, refl, refl, refl, refl, refl, refl)
