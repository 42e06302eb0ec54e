use Rattle.std.proofs.Common.{arith}
use Rattle.calendar.proofs.Callers.{count_bound}
-- there are few enough days to be counted in seconds
use Rattle.timestamp.proofs.moment.Goals as goal

pub overflow_mul-result : goal.overflow_mul-result
overflow_mul-result c = record { fits = omega (arith, count_bound c.args.date c.days_of.result c.days_of.ensures c.in_ok-days.days c.in_ok-days.was) }

pub overflow_add-result : goal.overflow_add-result
overflow_add-result c = record { fits = omega (arith, count_bound c.args.date c.days_of.result c.days_of.ensures c.in_ok-days.days c.in_ok-days.was) }
