use mathlib.Core.Path.{ap}
use lib.ListN.{length}
use borrow.Author.Rules.{rules}
use Rattle.text_dump.proofs.NextLaws.{passes_route, next_laws}
use Rattle.text_dump.proofs.State.next.Goals as goal

pub shape_of-asns-in-Valid : goal.shape_of-asns-in-Valid
shape_of-asns-in-Valid c =
    let kept = ap length c.loop-at.invariant.0 in
    search (kept, rules)

pub loop-at-preserved : goal.loop-at-preserved
loop-at-preserved c = search (passes_route, c.in_default.not-Valid, next_laws, rules)

pub slice_bounds-line_of-count : goal.slice_bounds-line_of-count
slice_bounds-line_of-count c = search (next_laws, rules)

pub slice_bounds-line_of-start : goal.slice_bounds-line_of-start
slice_bounds-line_of-start c = search (next_laws, rules)

pub slice_bounds-line_of-end : goal.slice_bounds-line_of-end
slice_bounds-line_of-end c = search (next_laws, rules)

pub returns-in-Unreadable : goal.returns-in-Unreadable
returns-in-Unreadable c = search (next_laws, rules)

pub loop-at-smaller-in-Passed : goal.loop-at-smaller-in-Passed
loop-at-smaller-in-Passed c = search (next_laws, rules)

pub loop-at-preserved-in-Passed : goal.loop-at-preserved-in-Passed
loop-at-preserved-in-Passed c = search (next_laws, rules)

pub loop-at-smaller-in-Wrapped : goal.loop-at-smaller-in-Wrapped
loop-at-smaller-in-Wrapped c = search (next_laws, rules)

pub loop-at-preserved-in-Wrapped : goal.loop-at-preserved-in-Wrapped
loop-at-preserved-in-Wrapped c = search (next_laws, rules)

pub slice_bounds-yielded-count : goal.slice_bounds-yielded-count
slice_bounds-yielded-count c = search (next_laws, rules)

pub slice_bounds-yielded-start : goal.slice_bounds-yielded-start
slice_bounds-yielded-start c = search (next_laws, rules)

pub returns-in-Valid : goal.returns-in-Valid
returns-in-Valid c = search (next_laws, rules)

pub loop-at-smaller : goal.loop-at-smaller
loop-at-smaller c = search (next_laws, rules)

pub returns : goal.returns
returns c = search (next_laws, rules)
