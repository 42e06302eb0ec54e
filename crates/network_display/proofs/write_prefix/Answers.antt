use Rattle.output.proofs.Writing.{then}
use Rattle.network_display.specs.Text.{prefix_text}
use Rattle.network_display.proofs.write_prefix.Goals as goal

pub returns : goal.returns
unfolding prefix_text
returns c = rw (← c.from.ensures) (then (then c.write_address.ensures c.byte.ensures) c.write_u32.ensures)
