use Rattle.std.proofs.Common.{arith}
use Rattle.aspath_routes.proofs.Behind.{behind, room_left}
use Rattle.aspath_routes.proofs.Write.{route_step, route_done}
use Rattle.aspath_routes.proofs.write_route.Goals as goal

pub overflow_add-place : goal.overflow_add-place
overflow_add-place c = record { fits = omega (arith, room_left _ _ _ _ _ c.loop-segment.invariant.1 c.write_numbers-place.ensures) }

pub loop-segment-preserved : goal.loop-segment-preserved
loop-segment-preserved c =
    let at = c.loop-segment in
    let wrote = c.write_numbers-place.ensures in (
      omega arith,
      omega (arith, room_left _ _ _ _ _ at.invariant.1 wrote),
      route_step _ _ _ c.in-Some.ensures.steps at.k _ _ _ _ _ _ _ _ at.invariant.2 (rw (← c.taken.ensures) (behind _ _ _ _ _ at.invariant.1 wrote)) c.left_of-k.ensures,
    )

pub returns : goal.returns
returns c = route_done _ c.loop-segment.k _ _ _ _ _ c.loop-segment.invariant.2 c.in-None.ensures.steps.0
