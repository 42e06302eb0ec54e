use Rattle.std.proofs.Common.{rules, arith, ℕ, List, ◌+◌, ◌∙◌, length}
use Rattle.std.proofs.lemmas.Iterator.{YieldsList-from_map}
use Rattle.std.proofs.lemmas.Iterator.Consumers.{YieldsList-at, YieldsList-from_first, sum_by_from_yields_List}
use Rattle.std.proofs.lemmas.Iterator.Adapters.{fits_from_length, at_most_from_yields_List}
use borrow.Author.Tests.{tests}
use Rattle.aspath.specs.Record.{Segment}
use Rattle.aspath.specs.Segments.{segment_of, segments_left}
use Rattle.aspath_display.specs.Display.{segment_text}
use Rattle.aspath_display.proofs.Text.{parted_len, few_segments}
use Rattle.aspath_display.proofs.path_len.Goals as goal

pub sum-requires-clause-fits : goal.sum-requires-clause-fits
sum-requires-clause-fits c =
    let path = c.args.path in
    let few = few_segments path.kinds.now path.lengths.now path.numbers.now path.few_segments path.paired in
    fits_from_length _ _ 4096 _ (at_most_from_yields_List (YieldsList-at c.map.ensures.source (YieldsList-from_first segment_of segments_left _ c.segments.ensures)) few)
    c.map.ensures.closure (omega arith) (λ x r q k. search (rules, tests))

pub returns : goal.returns
returns c =
    let text : Segment → List ℕ = λ x. segment_text x.kind x.numbers in
    let segments = YieldsList-at c.map.ensures.source (YieldsList-from_first segment_of segments_left _ c.segments.ensures) in
    c.saturating_sub.ensures
    ∙ rw (sum_by_from_yields_List (λ x. 1 + length (text x)) _ c.map.result _ c.sum.ensures.ran (YieldsList-from_map _ _ segments c.map.ensures.closure (λ x r q k. search (rules, tests))))
    (parted_len text 32 _)
