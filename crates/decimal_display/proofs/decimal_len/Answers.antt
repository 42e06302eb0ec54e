use Rattle.std.proofs.Common.{arith}
use Rattle.decimal_display.proofs.Printed.{length_log}
use Rattle.decimal_display.proofs.decimal_len.Goals as goal

pub returns-in-Some : goal.returns-in-Some
returns-in-Some c = (length_log _ _ c.in-Some.ensures.power_le c.in-Some.ensures.next_power_gt, omega (arith, c.in-Some.ensures.bound))
