use Rattle.std.proofs.Common.{refl, rules}
use Rattle.psv_stream.proofs.walk.next.Goals as goal

pub returns : goal.returns
returns g c = (c.step.new.arg4, record { text = _; room = _; shows = (refl, c.in_ok-room.ensures.cases.same); left = _; called = c.step.ensures; leaves = refl }, refl, search rules)
