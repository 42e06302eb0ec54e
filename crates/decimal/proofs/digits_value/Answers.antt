use native.Mathlib.Omega.{arith}
use Rattle.decimal.proofs.FrontValue.{at_most_eight, lanes_small, lanes_make}
use Rattle.decimal.proofs.digits_value.Goals as goal

pub overflow_mul-n : goal.overflow_mul-n
overflow_mul-n c = omega (arith, at_most_eight c.args.w c.args.n (omega arith) c.requires.0)

pub overflow_sub-n : goal.overflow_sub-n
overflow_sub-n c = omega (arith, at_most_eight c.args.w c.args.n (omega arith) c.requires.0)

pub joined-requires : goal.joined-requires
joined-requires c = lanes_small c.args.w c.args.n (omega arith) c.requires.0

pub returns : goal.returns
returns c = let a = c.args in lanes_make a.w a.n (omega arith) c.requires.0 c.joined.result c.joined.ensures
