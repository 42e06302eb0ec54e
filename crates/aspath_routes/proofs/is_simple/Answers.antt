use Rattle.std.proofs.Common.{◌∙◌, rules, length}
use Rattle.std.proofs.lemmas.Iterator.Consumers.{YieldsList-from_first}
use Rattle.std.proofs.lemmas.Iterator.Search.{all_from_yields_List}
use borrow.Author.Tests.{tests}
use Rattle.aspath.specs.Segments.{segment_of, segments_in, segments_left}
use Rattle.aspath_routes.specs.Joined.{simple}
use Rattle.aspath_routes.proofs.Joined.{all_is}
use Rattle.aspath_routes.proofs.is_simple.Goals as goal

pub returns : goal.returns
returns c =
    all_from_yields_List (λ x. simple x.kind (length x.numbers)) c.all.new.self _ _ c.all.ensures.ran
    (YieldsList-from_first segment_of segments_left (segments_in c.args.path) c.segments.ensures) (λ x b q k. search (rules, tests))
    ∙ all_is (segments_in c.args.path)
