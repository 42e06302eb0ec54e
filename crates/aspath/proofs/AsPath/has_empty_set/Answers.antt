use Rattle.std.proofs.Common.{◌∙◌, rules, length, eqb}
use Rattle.std.proofs.lemmas.Iterator.Consumers.{YieldsList-from_first}
use Rattle.std.proofs.lemmas.Iterator.Search.{any_from_yields_List}
use borrow.Author.Tests.{tests}
use Rattle.aspath.specs.Queries.{choices}
use Rattle.aspath.specs.Segments.{segment_of, segments_in, segments_left}
use Rattle.aspath.proofs.Queries.{no_choice}
use Rattle.aspath.proofs.AsPath.has_empty_set.Goals as goal

pub returns : goal.returns
returns c =
    any_from_yields_List (λ x. eqb (choices x.kind (length x.numbers)) 0) c.any.new.self _ _ c.any.ensures.ran
    (YieldsList-from_first segment_of segments_left (segments_in c.args.self) c.segments.ensures) (λ x b q k. search (rules, tests))
    ∙ no_choice (segments_in c.args.self)
