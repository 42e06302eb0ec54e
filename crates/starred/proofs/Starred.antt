-- The starred cases of 01 (One listing), stated of the definitions as one conjunction.
use Rattle.std.specs.Prelude.{Some, None, Ok}
use mathlib.Core.Path.{◌≡◌}
use lib.IntN.{pos}
use lib.Ieee.{binary64, neg, of_int}
use Rattle.scan.specs.Ascii.{ascii}
use Rattle.decimal.specs.Decimal.{read_u32}
use Rattle.decimal.proofs.Starred.{starred as numbers}
use Rattle.network.specs.Address.{address}
use Rattle.network.specs.Prefix.{prefix}
use Rattle.network.specs.declared.IpAddr.TheVariants.{V4, V6}
use Rattle.network_display.specs.Text.{address_text}
use Rattle.network_display.proofs.Starred.{starred as addresses}
use Rattle.timestamp.specs.Dates.{infer_timestamp}
use Rattle.timestamp.proofs.Starred.{starred as dates}

pub starred : (read_u32 (ascii "+7") ≡ Some 7)
    × (read_u32 (ascii "4294967295") ≡ Some 4294967295)
    × (read_u32 (ascii "4294967296") ≡ None)
    × (read_u32 (ascii "-0") ≡ None)
    × (address (ascii "192.0.02.1") ≡ None)
    × (address (ascii "1:2:3:4:5:6:7::") ≡ Some (V6 281483566841860 1407400653815808))
    × (address_text (V6 281483566841860 1407400653815808) ≡ ascii "1:2:3:4:5:6:7:0")
    × (address (ascii "0:0:1::") ≡ Some (V6 65536 0))
    × (address_text (V6 65536 0) ≡ ascii "0:0:1::")
    × (prefix (ascii "10.1.2.3/8") ≡ Some (record { addr = V4 167838211; len = 8 }))
    × (prefix (ascii "10.0.0.0") ≡ None)
    × (infer_timestamp (ascii "2024.03.01") ≡ Ok (Some (of_int binary64 (pos 1709294400))))
    × (infer_timestamp (ascii "2023.02.29/2024.03.01") ≡ (Ok None))
    × (infer_timestamp (ascii "12024-03-01-0000") ≡ (Ok None))
    × (infer_timestamp (ascii "0000-01-01-0000") ≡ Ok (Some (neg (of_int binary64 (pos 62167219200)))))
starred = (
  numbers.0,
  numbers.1,
  numbers.2,
  numbers.3,
  addresses.0,
  addresses.1,
  addresses.2,
  addresses.3,
  addresses.4,
  addresses.5,
  addresses.6,
  dates.0,
  dates.1,
  dates.2,
  dates.3,
)
