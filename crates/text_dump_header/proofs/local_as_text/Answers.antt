use Rattle.text_dump_header.proofs.PreambleLaws.{as_none, as_some}
use Rattle.text_dump_header.proofs.local_as_text.Goals as goal

pub returns-then-starts_with : goal.returns-then-starts_with
returns-then-starts_with c = simp (as_some _ _ c.starts_with.ensures c.if-starts_with.true) c.marked.ensures

pub returns-else-starts_with : goal.returns-else-starts_with
returns-else-starts_with c = as_none _ _ c.starts_with.ensures c.if-starts_with.false
