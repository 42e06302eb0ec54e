use mathlib.Core.Path.{◌≡◌}
use Prim.Native.Nat.{◌^◌, ◌<◌}
use lib.ListN.{drop}
use Rattle.ipv4.specs.Parts.{each}
use Rattle.ipv6.specs.Ipv6.{hex_digit, value_from}
use Rattle.ipv6.proofs.group.Given as goal

abbrev pub invariant-loop-b : goal.invariant-loop-b
invariant-loop-b l = (l.v < 16 ^ l.b-index) × (value_from 16 0 (each hex_digit l.p) ≡ value_from 16 l.v (each hex_digit (drop l.b-index l.p)))
