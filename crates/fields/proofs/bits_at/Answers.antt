use Rattle.std.proofs.Common.{rules}
use Rattle.fields.proofs.BitsLaws.{rest_one, rest_two}
use Rattle.fields.proofs.bits_at.Goals as goal

pub returns-then-b-gt9 : goal.returns-then-b-gt9
returns-then-b-gt9 c = search (rest_one, rules)

pub returns : goal.returns
returns c = search (rest_two, rules)
