use Rattle.std.proofs.Common.{drop}
use Rattle.output.proofs.Writing.{Left}
use Rattle.cases.specs.Answers.{each, marked}
use Rattle.cases.proofs.write_numbers.Given as goal

abbrev pub invariant-loop-value : goal.invariant-loop-value
invariant-loop-value l = Left (each (marked l.mark) l.values) l.initial.w (each (marked l.mark) (drop l.value-index l.values)) l.w
