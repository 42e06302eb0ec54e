use Rattle.std.proofs.Common.{length}
use Rattle.aspath_normal.proofs.Sets.{SortingSets}
use Rattle.aspath_normal.proofs.sort_sets.Given as goal

abbrev pub invariant-loop-kind : goal.invariant-loop-kind
invariant-loop-kind l = SortingSets l.kinds l.lengths l.initial.numbers l.numbers (length l.yielded) l.at
