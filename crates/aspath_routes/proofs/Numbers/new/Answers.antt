use Rattle.aspath_routes.specs.Runs.{runs}
use Rattle.aspath_routes.proofs.Numbers.new.Goals as goal

pub returns : goal.returns
unfolding runs
returns c = rw c.segments.ensures
