use native.Mathlib.Omega.{arith}
use Rattle.path_text.proofs.PlainLaws.{plain_inside, plain_found}
use Rattle.path_text.proofs.plain_number.Goals as goal

pub overflow_add-result : goal.overflow_add-result
overflow_add-result c = omega (arith, plain_inside c.args.part.now c.args.at _ _ c.type_inv.part c.word_at-w.ensures c.in_ok-d.ensures (omega arith) (λ z. omega arith))

pub overflow_add-result-2 : goal.overflow_add-result-2
overflow_add-result-2 c = omega (arith, plain_inside c.args.part.now c.args.at _ _ c.type_inv.part c.word_at-w.ensures c.in_ok-d.ensures (omega arith) (λ z. omega arith))

pub returns : goal.returns
returns c = plain_found c.args.part.now c.args.at _ _ c.type_inv.part c.word_at-w.ensures c.in_ok-d.ensures (omega arith) (omega arith)
