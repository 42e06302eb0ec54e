use Rattle.std.proofs.Common.{◌≡◌, ◌*◌, ◌^◌, ◌<◌}
use Rattle.aspath.specs.Queries.{variations}
use Rattle.aspath.specs.Segments.{segments_in, segments_left}
use Rattle.aspath.proofs.AsPath.num_route_variations.Given as goal

abbrev pub invariant-loop-segment : goal.invariant-loop-segment
invariant-loop-segment l = (0 < variations (segments_in l.fn.self)) × (l.product < 2 ^ 64) × (variations (segments_in l.fn.self) ≡ l.product * variations (segments_left l.segment-iterator))
