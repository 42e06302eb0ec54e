use Rattle.std.proofs.Common.{◌≡◌, ◌<◌, ◌^◌, drop}
use Rattle.decimal.specs.Decimal.{behind, digits}
use Rattle.decimal.proofs.many_digits.Given as goal

abbrev pub invariant-loop-b : goal.invariant-loop-b
invariant-loop-b l = (l.v < 2 ^ 64) × (digits l.s ≡ behind l.v (drop l.b-index l.s))
