use Rattle.psv_stream.proofs.Routes.{copied}
use Rattle.psv_stream.proofs.route.copy_behind.Goals as goal

pub returns : goal.returns
returns c = search copied
