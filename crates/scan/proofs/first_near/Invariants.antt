use Rattle.std.proofs.Common.{◌≤◌}
use Rattle.scan.proofs.LineLaws.{Least}
use Rattle.scan.proofs.first_near.Given as goal

abbrev pub invariant-loop-k : goal.invariant-loop-k
invariant-loop-k l = (l.first ≤ 64) × Least l.s l.at l.k l.first
