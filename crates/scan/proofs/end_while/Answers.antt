-- The scan ends at the first byte that the closure does not pass.
use Rattle.std.proofs.Common.{not, rules, sym, ◌≡◌, ◌+◌, ap, ◌∙◌, take, drop, length, ◌-◌}
use Rattle.std.specs.List.{position}
use Rattle.std.proofs.lemmas.Iterator.{YieldsList-from_slice}
use Rattle.std.proofs.lemmas.Iterator.Search.{position_from_yields_List}
use borrow.Author.Tests.{tests}
use Rattle.scan.proofs.ListLaws.{end_while_past, end_while_position}
use Rattle.scan.proofs.end_while.Goals as goal

pub returns-then-s-at : goal.returns-then-s-at
returns-then-s-at g c = λ p h. sym (end_while_past p _ _ c.if-s-at.true)

pub returns : goal.returns
returns g c = λ p h.
    let e : c.position.result ≡ position (λ b. not (p b)) (take (length c.args.s.now - c.args.at) (drop c.args.at c.args.s.now)) = position_from_yields_List (λ b. not (p b)) _ _ _ c.position.ensures.ran (YieldsList-from_slice (take (length c.args.s.now - c.args.at) (drop c.args.at c.args.s.now)) cc) (λ x b q k. search (rules, tests, h)) in
    ap (λ n. c.args.at + n) c.unwrap_or.ensures ∙ end_while_position p _ _ c.if-s-at.false _ e
