use mathlib.Core.Path.{◌≡◌}
use Prim.Native.Nat.{◌+◌, ◌≤◌}
use lib.ListN.{length, drop}
use Rattle.ip_display.specs.Groups.{zeros, longest, first_run}
use Rattle.ip_display.proofs.longest_run.Given as goal

abbrev pub invariant-loop-i : goal.invariant-loop-i
invariant-loop-i l =
    (length l.g ≡ 8) × (l.i ≤ 8) × (l.n + l.i ≤ 8) × (l.n ≡ zeros (drop l.i l.g)) × (l.len ≡ longest (drop l.i l.g)) × (l.start ≡ l.i + first_run l.len (drop l.i l.g))
