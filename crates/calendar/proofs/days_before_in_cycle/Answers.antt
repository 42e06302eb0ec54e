use mathlib.Core.Path.{◌∙◌}
use Rattle.calendar.specs.Calendar.{total, entry}
use Rattle.calendar.proofs.Table.{values, at}
use Rattle.calendar.proofs.Years.{entry_counts}
use Rattle.calendar.proofs.days_before_in_cycle.Goals as goal

pub returns : goal.returns
unfolding values total
returns c = at entry 400 c.args.y c.requires ∙ entry_counts c.args.y
