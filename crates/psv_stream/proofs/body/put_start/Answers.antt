use Rattle.psv_stream.proofs.Routes.{front_or}
use Rattle.psv_stream.proofs.body.put_start.Goals as goal

pub returns : goal.returns
returns c = front_or c.args.state _ _ _ _ c.put_front.ensures _ c.unwrap_or.ensures
