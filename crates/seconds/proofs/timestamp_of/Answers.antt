use Rattle.std.proofs.Common.{le-ltb, lt-ltb}
use Rattle.seconds.specs.Seconds.{timestamp_of}
use Rattle.seconds.proofs.timestamp_of.Goals as goal

pub returns-then-second-lt-EPOCH : goal.returns-then-second-lt-EPOCH
unfolding timestamp_of
returns-then-second-lt-EPOCH c = simp (lt-ltb _ _ c.if-second-lt-EPOCH.true, c.nearest_u64_to_f64.ensures)

pub returns-else-second-lt-EPOCH : goal.returns-else-second-lt-EPOCH
unfolding timestamp_of
returns-else-second-lt-EPOCH c = simp (le-ltb _ _ c.if-second-lt-EPOCH.false, c.nearest_u64_to_f64-else-second-lt-EPOCH.ensures)
