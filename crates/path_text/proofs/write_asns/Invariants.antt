use mathlib.Core.Path.{◌≡◌}
use mathlib.Core.List.{◌++◌}
use Prim.Native.Nat.{◌+◌, ◌-◌, ◌≤◌}
use lib.ListN.{length, take, drop}
use Rattle.path_text.specs.Path.{asns_of}
use Rattle.path_text.specs.Walk.{asns_from}
use Rattle.path_text.proofs.write_asns.Given as goal

abbrev pub invariant-loop-number : goal.invariant-loop-number
invariant-loop-number l = (l.n ≤ l.at) × (l.at ≤ length l.part) × (l.n + length (asns_from l.part l.at) ≡ length (asns_of l.part)) × (length (asns_of l.part) ≤ length l.out) × (take l.n l.out ++ asns_from l.part l.at ≡ asns_of l.part) × (drop l.n l.out ≡ drop l.n l.initial.out) × (length l.out ≡ length l.initial.out)

abbrev pub decreases-loop-number : goal.decreases-loop-number
decreases-loop-number l = length l.part - l.at
