use mathlib.Core.Path.{◌≡◌}
use Prim.Native.Nat.{◌≤◌, ◌-◌}
use lib.ListN.{length, take, drop}
use Rattle.scan.specs.Lines.{lines}
use Rattle.text_dump_header.specs.Header.{through, header_from, header}
-- where the ways out of the loop meet
use Rattle.text_dump_header.proofs.parse_header.Given as goal

abbrev pub invariant-lines : goal.invariant-lines
invariant-lines l = (l.met ≤ 64) × (l.at ≤ length l.text) × (header l.text ≡ header_from l.met l.p l.at (through (take (64 - l.met) (lines (drop l.at l.text)))))

abbrev pub decreases-lines : goal.decreases-lines
decreases-lines l = 64 - l.met
