-- `collector::fernweeks_next` meets its contract. Assumes nothing.
use Rattle.collector.proofs.Calls.{next_element, next_end, next_refused}
use Rattle.collector.proofs.fernweeks_next.Goals as goal

pub returns-in-Ok-Some : goal.returns-in-Ok-Some
returns-in-Ok-Some c =
    next_element _ _ _ _ c.if-state-lt-STATE_LEN.false c.if-element-lt-ELEMENT_LEN.false _ c.get_state.ensures _ c.in-Some.is _ _ c.next-answer.ensures
    c.slice_known-1.given _ c.put_cursor.ensures _ _ _ c.in-Ok-Some.is (rw c.in-Ok-Some.is at c.in-Ok-Some.field-0-is) c.put_element.ensures

pub returns-in-Ok-None : goal.returns-in-Ok-None
returns-in-Ok-None c =
    next_end _ _ _ _ c.if-state-lt-STATE_LEN.false c.if-element-lt-ELEMENT_LEN.false _ c.get_state.ensures _ c.in-Some.is _ _ c.next-answer.ensures
    c.slice_known-1.given _ c.put_cursor-in-Ok-None.ensures _ c.in-Ok-None.is (rw c.in-Ok-None.is at c.in-Ok-None.field-0-is)

pub returns-in-Err : goal.returns-in-Err
returns-in-Err c =
    next_refused _ _ _ _ c.if-state-lt-STATE_LEN.false c.if-element-lt-ELEMENT_LEN.false _ c.get_state.ensures _ c.in-Some.is _ _ c.next-answer.ensures
    _ _ c.in-Err.is c.number.ensures
