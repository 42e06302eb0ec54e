use Rattle.fields.proofs.FieldLaws.{prefix_field}
use Rattle.fields.proofs.read_prefix.Goals as goal

pub returns : goal.returns
returns c = prefix_field _ _ _ c.in-Some.ensures _ _ c.in-Some-bits_at.ensures _ c.all_spaces.ensures c.if-all_spaces.true
