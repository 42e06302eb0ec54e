use native.Mathlib.Omega.{arith}
use lib.Bits.{bit_xor, and_le_r}
use Rattle.decimal.proofs.FrontCount.{word_marks}
use Rattle.decimal.proofs.marks.Goals as goal

pub overflow_add-result : goal.overflow_add-result
overflow_add-result c = omega (arith, and_le_r (bit_xor c.args.w 3472328296227680304) 9187201950435737471)

pub returns : goal.returns
returns c = word_marks c.args.w (omega arith)
