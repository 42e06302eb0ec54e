use Rattle.output.proofs.Writing.{then}
use Rattle.psv.specs.Line.{between_text}
use Rattle.psv.proofs.write_between.Goals as goal

pub returns : goal.returns
unfolding between_text
returns c = search then
