use Rattle.std.proofs.Common.{arith, ap, refl, length}
use Rattle.output.proofs.Output.{all_left, none_left, whole}
use Rattle.aspath_routes.specs.Joined.{numbers_left}
use Rattle.aspath_routes.proofs.Write.{next_written}
use Rattle.aspath_routes.proofs.Numbers.write.Goals as goal

pub loop-place-init : goal.loop-place-init
loop-place-init c =
    rw (c.into_iter-place-iterator.ensures.into_iter_gives, c.enumerate-place-items.ensures.source, c.enumerate-place-items.ensures.count)
    (omega arith, all_left (numbers_left c.args.self) c.args.out.now 0)

pub loop-place-preserved : goal.loop-place-preserved
loop-place-preserved c =
    let known = c.loop-place.invariant in
    let step = c.in-Some.ensures.steps in
    rw (step.2, step.1) (
      omega (arith, known.0, ap length step.0),
      next_written _ _ _ _ _ _ _ known.1 step.0 (omega (arith, known.0, ap length step.0, c.requires, c.loop-place.auto.out)),
    )

pub returns : goal.returns
returns c = let known = c.loop-place.invariant in whole _ _ _ refl _ _ c.requires (none_left (rw c.in-None.ensures.steps.0.0 at known.1))
