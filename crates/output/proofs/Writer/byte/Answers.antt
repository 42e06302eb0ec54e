use Rattle.output.proofs.Writing.{full, one_byte}
use Rattle.output.proofs.Writer.byte.Goals as goal

pub returns-then-at-self : goal.returns-then-at-self
returns-then-at-self c = one_byte _ _ c.if-at-self.true

pub returns-else-at-self : goal.returns-else-at-self
returns-else-at-self c = full _ _ c.if-at-self.false
