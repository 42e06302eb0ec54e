-- Addresses and prefixes as text.
use Rattle.std.specs.Prelude.{ℕ, List, [], ◌∷◌, ◌++◌}
use Rattle.decimal_display.specs.Printed.{decimal}
use Rattle.ip_display.specs.Text.{dotted, ipv6_text}
use Rattle.network.specs.declared.IpAddr.{IpAddr}
use Rattle.network.specs.declared.IpAddr.TheVariants.{V4, V6}
use Rattle.network.specs.declared.NetworkPrefix.{NetworkPrefix}

unfoldable pub address_text : IpAddr → List ℕ
address_text (V4 n) = dotted n
address_text (V6 u l) = ipv6_text u l

unfoldable pub prefix_text : NetworkPrefix → List ℕ
prefix_text p = address_text p.addr ++ (47 ∷ []) ++ decimal p.len
