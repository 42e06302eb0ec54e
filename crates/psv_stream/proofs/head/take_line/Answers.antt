use Rattle.psv_stream.proofs.Steps.{long_steps, end_steps}
use Rattle.psv_stream.proofs.head.take_line.Goals as goal

pub returns-in-Nothing : goal.returns-in-Nothing
returns-in-Nothing c = search end_steps

pub returns-in-TooLong : goal.returns-in-TooLong
returns-in-TooLong c = search long_steps
