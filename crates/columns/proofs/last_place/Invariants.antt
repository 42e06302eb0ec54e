use mathlib.Core.Path.{◌≡◌}
use Prim.Native.Nat.{suc, ◌-◌}
use lib.ListN.{length}
use Rattle.columns.specs.Columns.{or_else, place_from, place}
use Rattle.columns.proofs.last_place.Given as goal

abbrev pub invariant-loop-start : goal.invariant-loop-start
invariant-loop-start l = place l.name l.line ≡ or_else (place_from (suc (length l.line)) l.name l.line l.at) l.found

abbrev pub decreases-loop-start : goal.decreases-loop-start
decreases-loop-start l = length l.line - l.at
