use Rattle.aspath_normal.proofs.Sets.{Singling}
use Rattle.aspath_normal.proofs.single_sets.Given as goal

abbrev pub invariant-loop-i : goal.invariant-loop-i
invariant-loop-i l = Singling l.initial.kinds l.lengths l.kinds l.i
