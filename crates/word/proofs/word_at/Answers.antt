-- `word::word_at` meets its contract. Assumes nothing.
use native.Mathlib.Omega.{arith}
use Rattle.word.proofs.At.{past, few, late}
use Rattle.word.proofs.word_at.Goals as goal

pub returns-then-s-at : goal.returns-then-s-at
returns-then-s-at c = let a = c.args in past a.s.now a.at (omega arith)

pub returns-then-s-lt8 : goal.returns-then-s-lt8
returns-then-s-lt8 c = let a = c.args in few a.s.now a.at c.few_at.result (omega arith) c.few_at.ensures

pub returns : goal.returns
returns c =
    let a = c.args in
    late a.s.now a.at c.eight_at-2.result c.type_inv.s (omega arith) (omega arith) c.eight_at-2.ensures
