use Rattle.aspath_normal.proofs.Compacting.{Compacting}
use Rattle.aspath_normal.proofs.dedup_segments.Given as goal

abbrev pub invariant-loop-length : goal.invariant-loop-length
invariant-loop-length l = Compacting l.initial.lengths l.initial.numbers l.lengths l.numbers l.length-index l.read l.write
