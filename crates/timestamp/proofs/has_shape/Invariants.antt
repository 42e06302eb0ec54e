use Rattle.timestamp.proofs.Shapes.{Ahead}
use Rattle.timestamp.proofs.has_shape.Given as goal

abbrev pub invariant-loop-p : goal.invariant-loop-p
invariant-loop-p l = Ahead l.shape l.s l.p-iterator.a.rest.now l.p-iterator.b.rest.now
