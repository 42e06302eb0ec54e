use Rattle.psv_stream.specs.Run.{header_bytes}
use Rattle.psv_stream.proofs.head.take_head.Given as goal

abbrev pub ghost-take_lines : goal.ghost-take_lines
ghost-take_lines a = header_bytes
