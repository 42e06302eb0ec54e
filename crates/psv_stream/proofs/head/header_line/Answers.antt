use Rattle.std.proofs.Common.{arith, rules}
use Rattle.psv_stream.proofs.Lines.{opens, no_columns_yet, no_columns, unreadable_line_lem, no_timestamp}
use Rattle.psv_stream.proofs.head.header_line.Goals as goal

pub returns-then-more : goal.returns-then-more
returns-then-more c = no_columns_yet _ c.args.out.now _ _ _ c.open.ensures (search rules) c.if-more.true

pub returns-in-Ok : goal.returns-in-Ok
returns-in-Ok c = search opens

pub returns-in-Err-Unreadable : goal.returns-in-Err-Unreadable
returns-in-Err-Unreadable c = search (unreadable_line_lem, rules)

pub returns-in-Err-NoTimestamp : goal.returns-in-Err-NoTimestamp
returns-in-Err-NoTimestamp c = search (no_timestamp, rules)

pub returns-else-more : goal.returns-else-more
returns-else-more c = search (no_columns, arith)
