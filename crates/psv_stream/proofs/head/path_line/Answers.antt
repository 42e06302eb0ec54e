use Rattle.std.proofs.Common.{rules}
use Rattle.psv_stream.proofs.Lines.{path_read, path_unreadable}
use Rattle.psv_stream.proofs.head.path_line.Goals as goal

pub returns-in-Ok : goal.returns-in-Ok
returns-in-Ok c = path_read c.args.line.now c.args.out.now _ c.infer_timestamp_from_path.ensures.0 _ c.in-Ok.is _ c.unwrap_or.ensures

pub returns-in-Err-NotUtf8 : goal.returns-in-Err-NotUtf8
returns-in-Err-NotUtf8 c = search (path_unreadable, rules)
