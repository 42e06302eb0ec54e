use Rattle.aspath_normal.proofs.Merging.{Merging}
use Rattle.aspath_normal.proofs.coalesce_entries.Given as goal

abbrev pub invariant-loop-i : goal.invariant-loop-i
invariant-loop-i l = Merging l.initial.kinds l.initial.lengths l.kinds l.lengths l.last l.end l.i
