use Rattle.output.proofs.Writing.{holds}
use Rattle.psv.proofs.put_ended.Goals as goal

pub returns : goal.returns
returns g c = λ t h writes. rw (holds (writes _ _ c.write.ensures) c.new-tail.ensures.0 (rw c.new-tail.ensures.2 h) c.text.ensures) at c.put_line.ensures
