use Rattle.output.proofs.Writing.{then}
use Rattle.psv.specs.Line.{front_text}
use Rattle.psv.proofs.write_front.Goals as goal

pub returns : goal.returns
unfolding front_text
returns c = search then depth 12
