use Rattle.path_text.proofs.PathLaws.{finds_token}
use Rattle.path_text.proofs.next_asn.Goals as goal

pub returns : goal.returns
returns c = finds_token _ _ _ c.next_token.ensures _ _ c.in_ok-a.was _ c.read_u32.ensures
