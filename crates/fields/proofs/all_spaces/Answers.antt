use Rattle.fields.proofs.SpaceLaws.{spaces_left}
use Rattle.fields.proofs.all_spaces.Goals as goal

pub returns-then-all_chunks_pass : goal.returns-then-all_chunks_pass
returns-then-all_chunks_pass c =
    spaces_left _ _ c.requires _ c.as_chunks.ensures.front _ c.all_chunks_pass.ensures c.if-all_chunks_pass.true _ c.as_chunks.ensures.back _ _ c.first_ink.ensures c.is_none.ensures
