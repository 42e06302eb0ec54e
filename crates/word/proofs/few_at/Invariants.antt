use Rattle.word.proofs.At.{Few}
use Rattle.word.proofs.few_at.Given as goal

abbrev pub invariant-loop-b : goal.invariant-loop-b
invariant-loop-b l = Few l.s l.b-iterator.iter.rest.now l.at l.word
