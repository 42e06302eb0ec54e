use Rattle.std.proofs.Common.{rules}
use Rattle.aspath_display.proofs.Text.{shown_short, shown_written}
use Rattle.aspath_display.proofs.display.Goals as goal

pub returns-then-out-path_len : goal.returns-then-out-path_len
returns-then-out-path_len c = rw (← c.in_ok-path.ensures) (shown_short c.path_len.ensures c.if-out-path_len.true)

pub returns : goal.returns
returns c = rw (← c.in_ok-path.ensures) (shown_written c.path_len.ensures c.new-w.ensures.0 c.new-w.ensures.2 c.if-out-path_len.false c.write_path.ensures (search rules))
