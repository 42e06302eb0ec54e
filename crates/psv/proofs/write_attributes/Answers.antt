use Rattle.output.proofs.Writing.{then}
use Rattle.psv.specs.Line.{attributes_text}
use Rattle.psv.proofs.write_attributes.Goals as goal

pub returns : goal.returns
unfolding attributes_text
returns c = search then depth 12
