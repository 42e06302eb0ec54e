use Rattle.std.proofs.Common.{arith}
use Rattle.output.proofs.Writing.{holds}
use Rattle.network_display.proofs.Writing.{prefix_le}
use Rattle.network_display.proofs.put_prefix.Goals as goal

pub returns : goal.returns
returns c = rw (holds c.write_prefix.ensures c.new-w.ensures.0 (rw c.new-w.ensures.2 (prefix_le c.args.p (omega arith))) c.text.ensures) at c.put.ensures
