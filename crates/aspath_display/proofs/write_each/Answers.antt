use Rattle.std.proofs.Common.{refl}
use Rattle.output.specs.Writing.{Writes}
use Rattle.output.proofs.Writing.{nothing}
use Rattle.aspath_display.specs.Display.{lead}
use Rattle.aspath_display.proofs.Text.{is_none, none_written, one_more_written, pushed_is_some}
use Rattle.aspath_display.proofs.write_each.Goals as goal
use Rattle.aspath_display.proofs.write_each.Goals.{then-not-first, else-not-first}

pub loop-item-init : goal.loop-item-init
loop-item-init g c = (refl, λ text writes. none_written text _ _)

-- the separator stands before each item but the first
parted : (g : _) (c : goal.After-write g) → Writes (lead (is_none c.loop-item.yielded) c.args.sep) c.loop-item.w c.if-not-first.w
parted g c = rw (← c.loop-item.invariant.0) (elim c.if-not-first.branch [ then-not-first w ↦ rw (w.if-not-first.true, w.w-is) w.byte.ensures | else-not-first w ↦ rw (w.if-not-first.false, w.w-is) (nothing _) ])

pub loop-item-preserved : goal.loop-item-preserved
loop-item-preserved g c = (pushed_is_some _ _, λ text writes. one_more_written text _ _ _ (c.loop-item.invariant.1 text writes) (parted g c) (writes _ _ _ c.write.ensures))

pub returns : goal.returns
returns g c = λ text writes. (
  c.loop-item.yielded,
  (_, (_, rw c.into_iter-item-iterator.ensures.into_iter_gives at c.loop-item.yielded_by, c.in-None.ensures.steps)),
  c.loop-item.invariant.1 text writes,
)
