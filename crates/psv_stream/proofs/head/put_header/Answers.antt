use Rattle.std.proofs.Common.{rules}
use Rattle.psv_stream.proofs.Texts.{written_by, header_put}
use Rattle.psv_stream.proofs.head.put_header.Goals as goal

pub returns : goal.returns
returns c = header_put _ (search rules) _ _ _ _ c.get_psv_header.ensures _ c.unwrap_or-at.ensures (written_by c.byte.ensures (search rules))
