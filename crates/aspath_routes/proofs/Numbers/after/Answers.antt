use Rattle.std.proofs.Common.{ℕ, ◌∙◌, rules, eqb}
use Rattle.std.proofs.lemmas.Iterator.{YieldsList-from_slice}
use Rattle.std.proofs.lemmas.Iterator.Consumers.{count_from_yields_List}
use Rattle.std.proofs.lemmas.Iterator.Search.{YieldsList-from_take_while}
use Rattle.std.proofs.lemmas.List.Folds.{length-prefix_len}
use borrow.Author.Tests.{tests}
use Rattle.aspath_routes.proofs.Runs.{without_run, with_all}
use Rattle.aspath_routes.proofs.Numbers.after.Goals as goal

pub returns-then-not-self : goal.returns-then-not-self
returns-then-not-self c = with_all _ _ _ c.if-not-self.true

pub returns : goal.returns
returns c =
    let equal = λ (b : ℕ). eqb b c.args.first in
    without_run _ c.args.first c.count-equal.result c.args.others.now c.if-not-self.false
    (count_from_yields_List c.take_while.result _ c.count-equal.ensures.ran
    (YieldsList-from_take_while _ equal (YieldsList-from_slice c.args.others.now cc) c.take_while.ensures.closure c.take_while.ensures.done (λ x b q k. search (rules, tests)))
    ∙ length-prefix_len equal c.args.others.now)
