use Rattle.std.proofs.Common.{◌≡◌, ◌+◌, ◌-◌, length}
use Rattle.psv_stream.specs.Loop.{Before}
use Rattle.psv_stream.specs.declared.walk.End.TheVariants as end
use Rattle.psv_stream.proofs.walk.take_lines.Given as goal

abbrev pub invariant-loop-answer : goal.invariant-loop-answer
invariant-loop-answer g l = record {
  lines : Before g.F.FnMut g.size l.input l.initial.step l.fn.first l.initial.out l.step l.taken.place l.taken.consumed l.taken.written l.out;
  going : l.taken.end ≡ end.Full;
}

abbrev pub decreases-loop-answer : goal.decreases-loop-answer
decreases-loop-answer g l = length l.input - (l.taken.consumed + g.size l.taken.place)
