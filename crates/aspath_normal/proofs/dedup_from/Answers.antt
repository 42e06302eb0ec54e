use Rattle.std.proofs.Common.{arith}
use Rattle.aspath_normal.proofs.Deduping.{all_passed}
use Rattle.aspath_normal.proofs.dedup_from.Goals as goal

pub returns : goal.returns
returns c = all_passed _ _ _ _ _ _ _ c.loop-i.invariant (omega arith)
