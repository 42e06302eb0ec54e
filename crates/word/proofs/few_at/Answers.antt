use Rattle.std.proofs.Common.{refl, arith}
use Rattle.word.proofs.At.{few_start, few_more, few_fits, few_all}
use Rattle.word.proofs.few_at.Goals as goal

pub loop-b-init : goal.loop-b-init
loop-b-init c = rw (c.into_iter-b-iterator.ensures.into_iter_gives, c.rev-b-items.ensures.source, c.iter.ensures.rest) (few_start c.args.s.now _ c.args.at refl)

pub overflow_add-word : goal.overflow_add-word
overflow_add-word c =
    let k = c.loop-b in
    rw c.from.ensures
    (few_fits c.args.s.now k.b-iterator.iter.rest.now c.next.new.self.iter.rest.now c.in-Some.b.now c.args.at k.word c.in-Some.ensures.steps k.invariant c.type_inv.s (omega arith))

pub overflow_mul-word : goal.overflow_mul-word
overflow_mul-word c = omega (arith, overflow_add-word c)

pub loop-b-preserved : goal.loop-b-preserved
loop-b-preserved c =
    let k = c.loop-b in
    rw c.from.ensures (few_more c.args.s.now k.b-iterator.iter.rest.now c.next.new.self.iter.rest.now c.in-Some.b.now c.args.at k.word c.in-Some.ensures.steps k.invariant)

pub returns : goal.returns
returns c = let k = c.loop-b in few_all c.args.s.now k.b-iterator.iter.rest.now c.args.at k.word c.in-None.ensures.steps.0 k.invariant
