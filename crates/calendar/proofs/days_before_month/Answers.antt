use Rattle.std.proofs.Common.{arith, ◌∙◌}
use Rattle.calendar.proofs.Months.{month_table}
use Rattle.calendar.proofs.days_before_month.Goals as goal
use Rattle.calendar.proofs.days_before_month.Goals.{then-leap, else-leap}

pub returns : goal.returns
returns c =
    elim c.if-leap.branch [
      | then-leap w ↦ month_table _ _ _ _ (omega arith) (rw w.if-leap.true w.from-is) c.from.ensures
      | else-leap w ↦ month_table _ _ _ _ (omega arith) (rw w.if-leap.false (w.from-is ∙ w.if-leap.false)) c.from.ensures
    ]
