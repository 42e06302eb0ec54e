use Rattle.psv.proofs.Printing.{header_is}
use Rattle.psv.proofs.get_psv_header.Goals as goal

pub returns : goal.returns
returns c = rw header_is c.put.ensures
