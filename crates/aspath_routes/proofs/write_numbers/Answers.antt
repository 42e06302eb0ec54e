use Rattle.aspath_routes.proofs.Write.{copied}
use Rattle.aspath_routes.proofs.write_numbers.Goals as goal

pub returns : goal.returns
returns c = copied _ _ _ _ c.min-n.ensures c.copy_from_slice.ensures.after
