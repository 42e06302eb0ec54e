-- The remembered prefix that numbers stand for.
use Rattle.std.specs.Prelude.{◌%◌, cond, eqb}
use Rattle.network.specs.declared.IpAddr.TheVariants.{V4, V6}
use Rattle.network.specs.declared.NetworkPrefix.{NetworkPrefix}
use Rattle.text_dump.specs.declared.Remembered.{Remembered}
use Rattle.text_dump.specs.declared.Remembered.TheVariants.{Nothing, Invalid, Valid}
use Rattle.packed.specs.declared.Packed.{Packed}

abbrev pub prefix_in : Packed → NetworkPrefix
prefix_in k = record { addr = cond (eqb k.version 6) (V6 k.upper k.lower) (V4 (k.lower % 4294967296)); len = k.len % 256 }

unfoldable pub remembered_in : Packed → Remembered
remembered_in k = cond (eqb k.kind 0) Nothing (cond (eqb k.kind 1) Invalid (Valid (prefix_in k)))
