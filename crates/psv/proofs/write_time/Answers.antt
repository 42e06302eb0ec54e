use Rattle.output.proofs.Writing.{nothing}
use Rattle.psv.specs.Line.{time_text}
use Rattle.psv.proofs.write_time.Goals as goal

pub returns-in_default : goal.returns-in_default
unfolding time_text
returns-in_default c = rw (← c.second_of.ensures, c.in_default.is) (nothing _)
