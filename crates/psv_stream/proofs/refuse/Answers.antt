use Rattle.std.proofs.Common.{rules}
use Rattle.psv_stream.proofs.Texts.{refuses}
use Rattle.psv_stream.proofs.refuse.Goals as goal

pub returns : goal.returns
returns c =
    rw (← c.number.ensures, ← c.new-w.ensures.2)
    (refuses _ _ c.new-w.ensures.0 (rw c.new-w.ensures.2 (search rules)) (search rules) c.ranges.line c.bytes.ensures c.write_u64.ensures c.bytes-2.ensures c.write_u64-2.ensures c.byte.ensures (search rules))
