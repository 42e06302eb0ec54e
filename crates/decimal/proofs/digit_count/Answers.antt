use native.Mathlib.Omega.{arith}
use lib.Count.{trailing_le}
use Rattle.decimal.proofs.FrontCount.{word_count}
use borrow.Author.Rules.{rules}
use Rattle.decimal.proofs.digit_count.Goals as goal

pub overflow_cast-result : goal.overflow_cast-result
overflow_cast-result c = omega (arith, trailing_le 64 c.marks.result)

pub returns : goal.returns
returns c = search (word_count, rules)
