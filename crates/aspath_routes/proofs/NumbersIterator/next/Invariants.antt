use Rattle.std.proofs.Common.{◌≡◌, length}
use Rattle.aspath.specs.Segments.{segments_left}
use Rattle.aspath_routes.specs.Joined.{numbers_left}
use Rattle.aspath_routes.proofs.NumbersIterator.next.Given as goal

abbrev pub invariant-loop-self : goal.invariant-loop-self
invariant-loop-self l = (l.self.dedup ≡ l.initial.self.dedup) × (numbers_left l.self ≡ numbers_left l.initial.self)

abbrev pub decreases-loop-self : goal.decreases-loop-self
decreases-loop-self l = length (segments_left l.self.segments)
