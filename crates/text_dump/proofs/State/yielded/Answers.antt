use borrow.Author.Rules.{rules}
use Rattle.text_dump.proofs.NextLaws.{refuses_7, yields}
use Rattle.text_dump.proofs.State.yielded.Goals as goal

ruleset laws = (refuses_7)

pub returns-in_default : goal.returns-in_default
returns-in_default c = search (laws, rules)

pub returns : goal.returns
returns c = search (yields, c.path_of-path.ensures, c.put_asns.ensures, c.origin_asn-origin_asn.ensures, c.element-element.ensures, c.moved.ensures, rules)
