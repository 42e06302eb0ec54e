-- `collector::fernweeks_open` meets its contract. Assumes nothing.
use Rattle.collector.proofs.Calls.{open_table, open_refused}
use Rattle.collector.proofs.fernweeks_open.Goals as goal

pub returns-in-Ok : goal.returns-in-Ok
returns-in-Ok c = open_table _ _ _ c.if-state-lt-STATE_LEN.false _ c.open.ensures _ _ c.in-Ok.is c.put_state.ensures

pub returns-in-Err : goal.returns-in-Err
returns-in-Err c = open_refused _ _ _ c.if-state-lt-STATE_LEN.false _ c.open.ensures _ _ c.in-Err.is c.number.ensures
