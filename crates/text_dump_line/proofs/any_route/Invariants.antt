use Rattle.std.specs.Prelude.{None}
use Rattle.std.proofs.Common.{◌≡◌, ◌<◌}
use Rattle.text_dump_line.specs.Line.{route_of, any_route}
use Rattle.text_dump_line.proofs.any_route.Given as goal

abbrev pub invariant-loop-is_shifted : goal.invariant-loop-is_shifted
invariant-loop-is_shifted l = (0 < l.is_shifted-index → None ≡ route_of l.c l.t) × (1 < l.is_shifted-index → None ≡ any_route l.c l.t)
