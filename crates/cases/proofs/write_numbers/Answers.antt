use Rattle.std.proofs.Common.{refl}
use Rattle.output.proofs.Writing.{then}
use Rattle.cases.specs.Answers.{marked}
use Rattle.cases.proofs.AnswerLaws.{next_item, all_items}
use Rattle.cases.proofs.write_numbers.Goals as goal

pub loop-value-preserved : goal.loop-value-preserved
loop-value-preserved c = next_item (marked c.args.mark.now) _ _ _ _ c.loop-value.invariant c.loop-value-test.true _ _ refl (then c.bytes.ensures c.write_u32.ensures)

pub returns : goal.returns
returns c = all_items (marked c.args.mark.now) _ _ _ _ c.loop-value.invariant c.loop-value-test.false
