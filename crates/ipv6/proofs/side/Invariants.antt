use Rattle.ipv6.proofs.Sides.{Reading}
use Rattle.ipv6.proofs.side.Given as goal

abbrev pub invariant-loop-part : goal.invariant-loop-part
invariant-loop-part l = Reading goal.iterator-loop-part.next_gives l.s l.dotted l.fn.start l.part-iterator l.last l.r
