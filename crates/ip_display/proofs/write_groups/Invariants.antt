use Rattle.std.proofs.Common.{drop}
use Rattle.output.proofs.Writing.{Left}
use Rattle.ip_display.specs.Text.{behind_colons}
use Rattle.ip_display.proofs.write_groups.Given as goal

abbrev pub invariant-loop-h : goal.invariant-loop-h
invariant-loop-h l = Left (behind_colons l.rest) l.initial.v (behind_colons (drop l.h-index l.rest)) l.v
