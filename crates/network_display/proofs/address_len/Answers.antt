use Rattle.std.proofs.Common.{refl}
use Rattle.network_display.proofs.Writing.{address_length}
use Rattle.network_display.proofs.address_len.Goals as goal

pub returns : goal.returns
returns c = address_length _ _ _ c.write_address.ensures c.new-text.ensures.0 (rw c.new-text.ensures.2 refl)
