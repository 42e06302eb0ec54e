use Rattle.decimal_display.proofs.Printed.{behind_written}
use Rattle.decimal_display.proofs.write_long.Goals as goal

pub returns-in-100000000-to-9999999999999999 : goal.returns-in-100000000-to-9999999999999999
returns-in-100000000-to-9999999999999999 c = search (behind_written 8)

pub returns-in_default : goal.returns-in_default
returns-in_default c = search (behind_written 16)
