use Rattle.psv_stream.proofs.Lines.{on_body}
use Rattle.psv_stream.proofs.head.on_line.Goals as goal

pub returns-in-Body : goal.returns-in-Body
returns-in-Body c = search on_body
