use Rattle.std.proofs.Common.{arith, ◌≤◌}
use Rattle.decimal_display.proofs.Printed.{behind_written}
use Rattle.decimal_display.proofs.write_short.Goals as goal

pub returns : goal.returns
returns c = let five : 10000 ≤ c.args.n = omega arith in search (behind_written 4)
