use mathlib.Core.Path.{◌≡◌}
use Prim.Native.Nat.{◌+◌, ◌≤◌}
use lib.ListN.{length, drop}
use Rattle.decimal.specs.Decimal.{behind}
use Rattle.ipv4.specs.Parts.{before}
use Rattle.ipv4.proofs.octet.Given as goal

abbrev pub invariant-loop-i : goal.invariant-loop-i
invariant-loop-i l =
    (l.v ≤ 255)
    × (length (before 46 l.t) ≡ l.i + length (before 46 (drop l.i l.t)))
    × (behind 0 (before 46 l.t) ≡ behind l.v (before 46 (drop l.i l.t)))
