use native.Mathlib.Omega.{arith}
use Rattle.decimal.proofs.FrontValue.{ones_bound, twos_product, twos_sum, fours_product, fours_sum, eights_fit, joins}
use Rattle.decimal.proofs.joined.Goals as goal

pub overflow_mul-twos : goal.overflow_mul-twos
overflow_mul-twos c = omega (arith, ones_bound c.args.ones c.requires)

pub overflow_add-twos : goal.overflow_add-twos
overflow_add-twos c = omega (arith, ones_bound c.args.ones c.requires)

pub overflow_mul-fours : goal.overflow_mul-fours
overflow_mul-fours c = search twos_product

pub overflow_add-fours : goal.overflow_add-fours
overflow_add-fours c = search twos_sum

pub overflow_mul-result : goal.overflow_mul-result
overflow_mul-result c = search fours_product

pub overflow_add-result : goal.overflow_add-result
overflow_add-result c = search fours_sum

pub overflow_cast-result : goal.overflow_cast-result
overflow_cast-result c = search eights_fit

pub returns : goal.returns
returns c = joins c.args.ones c.requires
