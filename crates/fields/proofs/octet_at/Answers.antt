use Rattle.std.proofs.Common.{rules}
use Rattle.fields.proofs.OctetLaws.{octet_one, octet_two, octet_three}
use Rattle.fields.proofs.octet_at.Goals as goal

pub returns-then-b-gt9 : goal.returns-then-b-gt9
returns-then-b-gt9 c = search (octet_one, rules)

pub returns-then-c-gt9 : goal.returns-then-c-gt9
returns-then-c-gt9 c = search (octet_two, rules)

pub returns : goal.returns
returns c = search (octet_three, rules)
