use Rattle.std.proofs.Common.{refl, inl, inr, arith}
use Rattle.timestamp.proofs.Shapes.{shape_short, ahead_other, ahead_next, ahead_end}
use Rattle.timestamp.proofs.has_shape.Goals as goal

pub returns-then-s-shape : goal.returns-then-s-shape
returns-then-s-shape c = shape_short c.args.shape.now c.args.s.now c.if-s-shape.true

pub loop-p-init : goal.loop-p-init
loop-p-init c =
    rw (c.into_iter-p-iterator.ensures.into_iter_gives, c.zip-p-items.ensures.first, c.zip-p-items.ensures.second.0, c.iter.ensures.rest)
    (refl, omega arith)

pub returns-then-not-fits : goal.returns-then-not-fits
returns-then-not-fits c =
    let k = c.loop-p in
    ahead_other _ _ _ _ _ _ _ _ k.invariant c.in-Some.ensures.steps.0 c.in-Some.ensures.steps.1 c.fits.result c.fits.ensures c.if-not-fits.true

pub loop-p-preserved : goal.loop-p-preserved
loop-p-preserved c =
    let k = c.loop-p in
    ahead_next _ _ _ _ _ _ _ _ k.invariant c.in-Some.ensures.steps.0 c.in-Some.ensures.steps.1 c.fits.result c.fits.ensures c.if-not-fits.false

pub returns : goal.returns
returns c =
    let k = c.loop-p in
    elim c.in-None.ensures.steps [
      | inl w ↦ ahead_end _ _ _ _ k.invariant w.1.0
      | inr w ↦ ahead_end _ _ _ _ k.invariant (omega (arith, w.1.0, k.invariant.1))
    ]
