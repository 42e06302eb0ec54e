use Rattle.std.proofs.Common.{◌*◌, ◌^◌, ◌<◌, ◌≤◌}
use Rattle.fields.proofs.FrontLaws.{OctetsTo}
use Rattle.fields.proofs.address_front.Given as goal

abbrev pub invariant-loop-k : goal.invariant-loop-k
invariant-loop-k l = (l.at ≤ l._k * 4) × (l.a < 256 ^ l._k) × OctetsTo l.s l.at l._k l.a
