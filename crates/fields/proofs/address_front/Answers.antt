use Rattle.std.proofs.Common.{rules}
use Rattle.fields.proofs.FrontLaws.{front_laws}
use Rattle.fields.proofs.address_front.Goals as goal

pub overflow_mul-a : goal.overflow_mul-a
overflow_mul-a c = search (front_laws, rules)

pub overflow_add-a : goal.overflow_add-a
overflow_add-a c = search (front_laws, c.in_ok-v.ensures, rules)

pub loop-k-preserved : goal.loop-k-preserved
loop-k-preserved c = search (front_laws, c.in_ok-v.ensures, rules)

pub overflow_add-result : goal.overflow_add-result
overflow_add-result c = search (front_laws, c.in_ok-v-2.ensures, rules)
