use Rattle.output.proofs.Writing.{nothing}
use Rattle.psv.specs.Line.{number_text}
use Rattle.psv.proofs.write_number.Goals as goal

pub returns-in_default : goal.returns-in_default
unfolding number_text
returns-in_default c = rw c.in_default.is (nothing _)
