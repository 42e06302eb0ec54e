use Rattle.std.proofs.Common.{true, false, refl, arith}
use Rattle.timestamp.proofs.Places.{all_places, no_place, at_place, next_place}
use Rattle.timestamp.proofs.first_place.Goals as goal

pub loop-i-init : goal.loop-i-init
loop-i-init g c = λ p h. all_places p c.args.path.now

pub returns-then-test-clause-first : goal.returns-then-test-clause-first
returns-then-test-clause-first g c =
    λ p h. at_place p _ _ (c.loop-i.invariant p h) (omega arith) true (h c.loop-i.i true (omega arith) c.if-test.ensures) refl

pub loop-i-preserved : goal.loop-i-preserved
loop-i-preserved g c =
    λ p h. next_place p _ _ (c.loop-i.invariant p h) (omega arith) false (h c.loop-i.i false (omega arith) c.if-test.ensures) refl

pub returns-clause-first : goal.returns-clause-first
returns-clause-first g c = λ p h. no_place p _ c.loop-i.i (c.loop-i.invariant p h) (omega arith)
