use Rattle.aspath_normal.proofs.Deduping.{Deduping}
use Rattle.aspath_normal.proofs.dedup_from.Given as goal

abbrev pub invariant-loop-i : goal.invariant-loop-i
invariant-loop-i l = Deduping l.initial.t l.first l.j l.t l.last l.k l.i
