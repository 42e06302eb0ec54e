-- Laws of writing addresses and prefixes.
use mathlib.Core.Path.{◌≡◌}
use Prim.Native.Nat.{◌+◌, ◌≤◌, ◌<◌}
use native.Mathlib.Omega.{arith}
use lib.ListN.{length, length-append}
use Rattle.decimal_display.specs.Printed.{decimal}
use Rattle.decimal_display.proofs.Printed.{digits_most}
use Rattle.output.specs.Writing.{Writes}
use Rattle.output.specs.declared.Writer.{Writer}
use Rattle.output.proofs.Writing.{place}
use Rattle.ip_display.proofs.Writing.{dotted_le, ipv6_le}
use Rattle.network.specs.declared.IpAddr.{IpAddr}
use Rattle.network.specs.declared.IpAddr.TheVariants.{V4, V6}
use Rattle.network.specs.declared.NetworkPrefix.{NetworkPrefix}
use Rattle.network_display.specs.Text.{address_text, prefix_text}

-- the longest text
pub address_le : (a : IpAddr) → length (address_text a) ≤ 45
unfolding address_text
address_le (V4 n) = omega (arith, dotted_le n)
address_le (V6 u l) = ipv6_le u l

-- measured
pub address_length : (a : IpAddr) (w₀ w : Writer) → Writes (address_text a) w₀ w → w₀.at ≡ 0 → length w₀.out.now ≡ 45
    → (w.at ≡ length (address_text a)) × (w.at ≤ 45)
address_length a w₀ w c z e =
    let k : w.at ≡ length (address_text a) = place c z (omega (arith, e, address_le a)) in (k, omega (arith, k, address_le a))

pub prefix_length : (p : NetworkPrefix) → length (prefix_text p) ≡ length (address_text p.addr) + 1 + length (decimal p.len)
unfolding prefix_text
prefix_length p = simp length-append (omega arith)

pub prefix_le : (p : NetworkPrefix) → p.len < 256 → length (prefix_text p) ≤ 66
prefix_le p h = omega (arith, prefix_length p, address_le p.addr, digits_most 19 p.len (omega (arith, h)))
