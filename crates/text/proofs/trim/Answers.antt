use Rattle.text.proofs.TrimLaws.{trim_is}
use Rattle.text.proofs.trim.Goals as goal

pub returns : goal.returns
returns c = cc (trim_is _)
