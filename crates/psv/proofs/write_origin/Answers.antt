use Rattle.output.proofs.Writing.{nothing}
use Rattle.psv.specs.Line.{origin_text}
use Rattle.psv.proofs.write_origin.Goals as goal

pub returns-in-None : goal.returns-in-None
unfolding origin_text
returns-in-None c = rw c.in-None.is (nothing _)
