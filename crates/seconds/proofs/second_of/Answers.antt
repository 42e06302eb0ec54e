-- `seconds::second_of` meets its contract: each way rewrites `second_of` with the tests that led there.
-- Assumes nothing.
use Rattle.std.proofs.Common.{◌∙◌, arith}
use lib.Ieee.{of_bits}
use Rattle.seconds.proofs.Answers.{before_none, before_some, since_none, since_some, since_over}
use Rattle.seconds.proofs.second_of.Goals as goal

pub returns-in_err-whole_number : goal.returns-in_err-whole_number
unfolding of_bits
returns-in_err-whole_number c =
    c.from_residual.ensures ∙ before_none _ _ c.if-t.true c.whole_number.ensures c.in_err-whole_number.was

pub returns-then-t : goal.returns-then-t
unfolding of_bits
returns-then-t c =
    before_some _ _ c.if-t.true c.whole_number.ensures _ _ c.in_ok-whole_number.was c.checked_sub.ensures

pub returns-in_err-n : goal.returns-in_err-n
unfolding of_bits
returns-in_err-n c = c.from_residual-in_err-n.ensures ∙ since_none _ _ c.if-t.false c.whole_number-2.ensures c.in_err-n.was

pub returns-then-n-le-LAST : goal.returns-then-n-le-LAST
unfolding of_bits
returns-then-n-le-LAST c = since_some _ _ c.if-t.false c.whole_number-2.ensures _ c.in_ok-n.was (omega arith)

pub returns-else-n-le-LAST : goal.returns-else-n-le-LAST
unfolding of_bits
returns-else-n-le-LAST c = since_over _ _ c.if-t.false c.whole_number-2.ensures _ c.in_ok-n.was (omega arith)
