use Rattle.std.proofs.Common.{rules}
use Rattle.decimal.proofs.Reading.{no_digit}
use Rattle.decimal.proofs.read_digits.Goals as goal

pub returns-then-is_empty : goal.returns-then-is_empty
returns-then-is_empty c = search (no_digit, rules)
