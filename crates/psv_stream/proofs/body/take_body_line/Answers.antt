use Rattle.psv_stream.proofs.Bodies.{line_one, line_size, starved_steps, end_steps, long_steps, line_steps}
use Rattle.std.proofs.Common.{rules}
use Rattle.psv_stream.proofs.body.take_body_line.Goals as goal

pub slice_bounds-body_line-end : goal.slice_bounds-body_line-end
slice_bounds-body_line-end c = search line_size

pub body_line-requires : goal.body_line-requires
body_line-requires c = record { line_value = search line_one; kept = search rules }

pub returns-in-Starved : goal.returns-in-Starved
returns-in-Starved c = record { steps = search starved_steps; keeps = tt }

pub returns-in-Nothing : goal.returns-in-Nothing
returns-in-Nothing c = record { steps = search end_steps; keeps = tt }

pub returns-in-TooLong : goal.returns-in-TooLong
returns-in-TooLong c = record { steps = search long_steps; keeps = tt }

pub returns-in-Line : goal.returns-in-Line
returns-in-Line c = record { steps = search line_steps; keeps = search rules }
