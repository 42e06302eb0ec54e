use Rattle.std.proofs.Common.{sym, ◌∙◌}
use Rattle.output.proofs.Writing.{then}
use Rattle.cases.specs.Answers.{hex_pair}
use Rattle.cases.proofs.AnswerLaws.{next_item, all_items, some_bytes}
use Rattle.cases.proofs.write_hex.Goals as goal

pub loop-b-preserved : goal.loop-b-preserved
loop-b-preserved c =
    next_item hex_pair _ _ _ _ c.loop-b.invariant c.loop-b-test.true _ _ (rw (c.hex_digit.ensures, c.hex_digit-in-loop-b.ensures))
    (then c.byte-in-loop-b.ensures c.byte-in-loop-b-2.ensures)

pub returns : goal.returns
returns c =
    rw (← some_bytes c.args.s.now (sym c.is_empty.ensures ∙ c.if-is_empty.false)) (all_items hex_pair _ _ _ _ c.loop-b.invariant c.loop-b-test.false)
