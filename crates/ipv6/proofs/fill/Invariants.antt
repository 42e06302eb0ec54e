use mathlib.Core.Path.{◌≡◌}
use Prim.Native.Nat.{◌-◌}
use Rattle.ipv6.proofs.Sides.{zeros_from}
use Rattle.ipv6.proofs.fill.Given as goal

abbrev pub invariant-loop-n : goal.invariant-loop-n
invariant-loop-n l = (l._n ≡ l.r.n) × (zeros_from l.initial.r (l.m - l.initial.r.n) ≡ zeros_from l.r (l.m - l._n))
