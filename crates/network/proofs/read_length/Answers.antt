use Rattle.network.proofs.Reading.{length_over, length_some}
use Rattle.network.proofs.read_length.Goals as goal

pub returns-then-n-most : goal.returns-then-n-most
returns-then-n-most c = length_some _ _ _ c.if-width-t.false _ c.read_digits.ensures _ c.in_ok-n.was c.if-n-most.true

pub returns-else-n-most : goal.returns-else-n-most
returns-else-n-most c = length_over _ _ _ c.if-width-t.false _ c.read_digits.ensures _ c.in_ok-n.was c.if-n-most.false
