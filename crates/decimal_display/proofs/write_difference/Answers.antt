use Rattle.decimal_display.proofs.Printed.{negative_written, positive_written}
use Rattle.decimal_display.proofs.write_difference.Goals as goal

pub returns-then-a-b : goal.returns-then-a-b
returns-then-a-b c = search negative_written

pub returns-else-a-b : goal.returns-else-a-b
returns-else-a-b c = search positive_written
