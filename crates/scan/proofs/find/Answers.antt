use Rattle.std.proofs.Common.{rules, ◌≡◌, true, false, leb, length, drop, ◌&&◌}
use Rattle.std.proofs.lemmas.Iterator.{first_from_Range}
use borrow.Author.Tests.{tests}
use Rattle.scan.specs.Search.{starts_with}
use Rattle.scan.proofs.SearchLaws.{search_found}
use Rattle.scan.proofs.find.Goals as goal

pub returns : goal.returns
returns c =
    search_found c.args.s.now c.args.p.now _
    (first_from_Range _ _ _ _
    (λ k. (leb k (length c.args.s.now) && starts_with (drop k c.args.s.now) c.args.p.now) ≡ true)
    (λ k. (leb k (length c.args.s.now) && starts_with (drop k c.args.s.now) c.args.p.now) ≡ false)
    c.find.ensures.ran (λ x q k. search (rules, tests)) (λ x q k. search (rules, tests)))
