use Rattle.std.proofs.Common.{◌-◌, length}
use Rattle.psv_stream.proofs.Copying.{Copied}
use Rattle.psv_stream.proofs.route.plain_path.Given as goal

abbrev pub invariant-loop-n : goal.invariant-loop-n
invariant-loop-n l = Copied l.path l.at l.last

abbrev pub decreases-loop-n : goal.decreases-loop-n
decreases-loop-n l = length l.path - l.at
