use Rattle.network.proofs.Reading.{prefix_some}
use Rattle.network.proofs.read_prefix.Goals as goal

pub returns : goal.returns
returns c = prefix_some _ _ c.last_slash.ensures _ c.in_ok-k.was _ c.read_address.ensures _ c.in_ok-addr.was _ c.length_for.ensures _ c.in_ok-len.was
