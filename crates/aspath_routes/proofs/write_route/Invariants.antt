use Rattle.std.proofs.Common.{◌≡◌, ◌≤◌, length}
use Rattle.output.proofs.Output.{Left}
use Rattle.aspath.specs.Segments.{segments_in, segments_left}
use Rattle.aspath_routes.specs.Routes.{numbered}
use Rattle.aspath_routes.proofs.write_route.Given as goal

abbrev pub invariant-loop-segment : goal.invariant-loop-segment
invariant-loop-segment l =
    (length l.out ≡ length l.initial.out) × (l.place ≤ length l.out) × Left (numbered (segments_in l.fn.path) l.number) l.initial.out 0 (numbered (segments_left l.segment-iterator) l.k) l.out l.place
