use Rattle.std.proofs.Common.{arith}
use Rattle.aspath_normal.proofs.Sets.{singled, all_single}
use Rattle.aspath_normal.proofs.single_sets.Goals as goal

pub loop-i-preserved : goal.loop-i-preserved
loop-i-preserved c = singled _ _ _ _ c.loop-i.invariant (omega arith) _ c.single_kind.ensures

pub returns : goal.returns
returns c = all_single _ _ _ _ c.loop-i.invariant (omega arith)
