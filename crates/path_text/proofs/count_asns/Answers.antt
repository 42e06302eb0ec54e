use Rattle.std.proofs.Common.{rules, inl, length, arith, ap, sym, ◌∙◌}
use Rattle.std.proofs.lemmas.Iterator.Consumers.{YieldsList-from_first, YieldsList-from_filter, count_from_yields_List}
use borrow.Author.Tests.{tests}
use Rattle.text.specs.White.{tokens}
use Rattle.text.specs.TokensLeft.{tokens_left}
use Rattle.path_text.proofs.PathLaws.{is_number, number_count, few_tokens, asns_are}
use Rattle.path_text.proofs.count_asns.Goals as goal

pub count-requires-clause-fits : goal.count-requires-clause-fits
count-requires-clause-fits c =
    let left = ap tokens_left c.filter.ensures.source ∙ c.of.ensures in
    inl (omega (arith, ap length left, few_tokens c.args.part.now))

pub returns : goal.returns
returns c =
    let left = ap tokens_left c.filter.ensures.source ∙ c.of.ensures in
    let items = YieldsList-from_first (λ x. x.now) tokens_left (tokens c.args.part.now) left in
    count_from_yields_List c.filter.result _ c.count.ensures.ran
    (YieldsList-from_filter _ is_number items c.filter.ensures.closure (λ x b q k. search (rules, tests)))
    ∙ number_count (tokens c.args.part.now) ∙ sym (ap length (asns_are c.args.part.now))
