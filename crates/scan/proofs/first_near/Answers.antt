use Rattle.std.proofs.Common.{arith}
use Rattle.scan.proofs.LineLaws.{least_more}
use Rattle.scan.proofs.first_near.Goals as goal

pub loop-k-preserved : goal.loop-k-preserved
loop-k-preserved c = (
  omega arith,
  least_more _ _ _ _ c.loop-k.invariant.1 c.requires c.loop-k-test.true _ _ c.place_of.ensures c.min-first.ensures,
)
