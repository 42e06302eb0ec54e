use Rattle.std.proofs.Common.{arith}
use Rattle.output.proofs.Writing.{holds}
use Rattle.decimal_display.proofs.Printed.{difference_le}
use Rattle.seconds.proofs.put_timestamp.Goals as goal

pub returns : goal.returns
returns c = rw (holds c.write_timestamp.ensures c.new-w.ensures.0 (rw c.new-w.ensures.2 (difference_le c.args.second _ (omega arith) (omega arith))) c.text.ensures) at c.put.ensures
