use Rattle.output.proofs.Writing.{holds}
use Rattle.network_display.proofs.Writing.{address_le}
use Rattle.network_display.proofs.put_address.Goals as goal

pub returns : goal.returns
returns c = rw (holds c.write_address.ensures c.new-w.ensures.0 (rw c.new-w.ensures.2 (address_le c.args.a)) c.text.ensures) at c.put.ensures
