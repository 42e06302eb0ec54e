use Rattle.std.proofs.Common.{drop}
use Rattle.output.proofs.Writing.{Left}
use Rattle.cases.specs.Answers.{each, hex_pair}
use Rattle.cases.proofs.write_hex.Given as goal

abbrev pub invariant-loop-b : goal.invariant-loop-b
invariant-loop-b l = Left (each hex_pair l.s) l.initial.w (each hex_pair (drop l.b-index l.s)) l.w
