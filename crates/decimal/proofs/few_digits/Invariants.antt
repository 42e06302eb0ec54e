use Rattle.std.proofs.Common.{◌≡◌, ◌<◌, ◌^◌, drop}
use Rattle.decimal.specs.Decimal.{behind, digits}
use Rattle.decimal.proofs.few_digits.Given as goal

abbrev pub invariant-loop-b : goal.invariant-loop-b
invariant-loop-b l = (l.v < 10 ^ l.b-index) × (digits l.s ≡ behind l.v (drop l.b-index l.s))
