use Rattle.output.proofs.Writing.{then}
use Rattle.psv.proofs.write_begin.Goals as goal

pub returns : goal.returns
returns c = search then
