use Rattle.input.proofs.Fronts.{none_front, no_more, line_some, line_last, long_front, ended_front, feed_front, part_front}
use Rattle.input.proofs.line_at.Goals.{then-ended-2-via-then-ended-2, then-ended-2-via-else-ended-2+then-input-end-eq10}
use Rattle.input.proofs.line_at.Goals as goal

pub returns-then-ended : goal.returns-then-ended
returns-then-ended c = search none_front

pub returns-then-input-at : goal.returns-then-input-at
returns-then-input-at c = search no_more

pub returns-then-end-gt65536 : goal.returns-then-end-gt65536
returns-then-end-gt65536 c = search long_front

pub returns-then-ended-2 : goal.returns-then-ended-2
returns-then-ended-2 c = elim c.then-ended-2.branch [
  | then-ended-2-via-then-ended-2 w ↦ search ended_front
  | then-ended-2-via-else-ended-2+then-input-end-eq10 w ↦ search feed_front
]

pub overflow_sub-end : goal.overflow_sub-end
overflow_sub-end c = search line_some

pub bounds-input-end : goal.bounds-input-end
bounds-input-end c = search line_last

pub returns : goal.returns
returns c = search part_front
