use Rattle.std.proofs.Common.{◌≤◌, ◌∙◌, rules, length, arith, ℕ}
use Rattle.std.proofs.lemmas.Iterator.{YieldsList-from_map}
use Rattle.std.proofs.lemmas.Iterator.Consumers.{YieldsList-at, YieldsList-from_first, sum_from_yields_List, fits_from_yields_list}
use borrow.Author.Tests.{tests}
use Rattle.aspath.specs.Queries.{segment_route_len, route_len}
use Rattle.aspath.specs.Record.{Segment}
use Rattle.aspath.specs.Segments.{segment_of, segments_in, segments_left}
use Rattle.aspath.proofs.Lists.{sum_map_is}
use Rattle.aspath.proofs.Queries.{route_len_bound}
use Rattle.aspath.proofs.AsPath.route_len.Goals as goal

abbrev len : Segment → ℕ
len x = segment_route_len x.kind (length x.numbers)

pub sum-requires-clause-fits : goal.sum-requires-clause-fits
sum-requires-clause-fits c =
    let path = c.args.self in
    let bound : route_len (segments_in path) ≤ 20480 = route_len_bound _ _ _ path.few_segments path.few_numbers path.paired path.summed in
    fits_from_yields_list c.map.result _
    (YieldsList-from_map _ len (YieldsList-at c.map.ensures.source (YieldsList-from_first segment_of segments_left (segments_in path) c.segments.ensures)) c.map.ensures.closure (λ x r q k. search (rules, tests)))
    (omega (arith, bound, sum_map_is len (segments_in path)))

pub returns : goal.returns
returns c =
    sum_from_yields_List c.map.result _ c.sum.ensures.ran
    (YieldsList-from_map _ len (YieldsList-at c.map.ensures.source (YieldsList-from_first segment_of segments_left (segments_in c.args.self) c.segments.ensures)) c.map.ensures.closure (λ x r q k. search (rules, tests)))
    ∙ sum_map_is len (segments_in c.args.self)
