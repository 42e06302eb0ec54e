use Rattle.ipv6.proofs.Sides.{fill_more, fill_n}
use Rattle.ipv6.proofs.fill.Goals as goal

pub loop-n-preserved : goal.loop-n-preserved
loop-n-preserved c =
    let k = c.loop-n in
    (fill_n _ _ _ _ k.invariant.0 k.invariant.1 c.loop-n-test.true _ c.push.ensures _ c.in_ok-r.was, fill_more _ _ _ _ k.invariant.0 k.invariant.1 c.loop-n-test.true _ c.push.ensures _ c.in_ok-r.was)
