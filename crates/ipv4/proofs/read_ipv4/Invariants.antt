use mathlib.Core.Path.{◌≡◌}
use Prim.Native.Nat.{◌^◌, ◌<◌, ◌≤◌}
use lib.ListN.{length}
use Rattle.ipv4.specs.Parts.{parts, each}
use Rattle.ipv4.specs.Ipv4.{octet, ipv4}
use Rattle.ipv4.proofs.Ipv4.{four_from}
use Rattle.ipv4.proofs.read_ipv4.Given as goal

abbrev pub invariant-loop-k : goal.invariant-loop-k
invariant-loop-k l = (length l.rest ≤ length l.s) × (l.a < 256 ^ l._k) × (ipv4 l.s ≡ four_from l._k l.a (each octet (parts 46 l.rest)))
