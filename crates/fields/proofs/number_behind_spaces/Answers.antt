use Rattle.fields.proofs.BlankLaws.{number_here}
use Rattle.fields.proofs.number_behind_spaces.Goals as goal

pub returns : goal.returns
returns c = number_here _ _ c.first_ink.ensures _ c.in_ok-i.was _ c.number_in.ensures
