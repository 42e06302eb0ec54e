use Rattle.std.proofs.Common.{◌≡◌, ◌++◌, length, drop}
use Rattle.decimal_display.specs.Printed.{last_digits}
use Rattle.decimal_display.proofs.last_digits.Given as goal

abbrev pub invariant-loop-i : goal.invariant-loop-i
invariant-loop-i g l = (length l.digits ≡ g.row.K) × (last_digits g.row.K l.n ≡ last_digits l.i l.y ++ drop l.i l.digits)
