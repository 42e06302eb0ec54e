use Rattle.output.proofs.Writing.{then}
use Rattle.ip_display.proofs.write_before_dot.Goals as goal

pub returns : goal.returns
returns c = then c.write_octet.ensures c.byte.ensures
