use Rattle.std.proofs.Common.{◌≡◌, drop}
use Rattle.decimal.proofs.Leading.{Run}
use Rattle.decimal.proofs.digits_at.Given as goal

abbrev pub invariant-loop-i : goal.invariant-loop-i
invariant-loop-i l = (l.rest ≡ drop l.at l.s) × Run l.rest l.i l.v
