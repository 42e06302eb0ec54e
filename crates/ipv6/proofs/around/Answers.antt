use Rattle.std.proofs.Common.{arith}
use Rattle.ipv6.proofs.Sides.{around_over, around_whole}
use Rattle.ipv6.proofs.around.Goals as goal

pub returns-in_err-side : goal.returns-in_err-side
returns-in_err-side c =
    rw c.from_residual-in_err-side.ensures
    (around_over _ _ _ c.side.ensures _ c.in_ok-l.was _ c.side-2.ensures _ c.in_ok-r.was (omega arith) _ c.fill.ensures _ c.in_ok-fill.was _ c.side-3.ensures c.in_err-side.was)

pub returns : goal.returns
returns c =
    around_whole _ _ _ c.side.ensures _ c.in_ok-l.was _ c.side-2.ensures _ c.in_ok-r.was (omega arith) _ c.fill.ensures _ c.in_ok-fill.was
    _ c.side-3.ensures _ c.in_ok-side.was _ c.whole.ensures
