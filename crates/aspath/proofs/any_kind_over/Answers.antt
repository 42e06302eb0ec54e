use Rattle.std.proofs.Common.{rules, ltb}
use borrow.Author.Tests.{tests}
use Rattle.aspath.proofs.Lists.{over_none, over_next}
use Rattle.aspath.proofs.any_kind_over.Goals as goal

pub loop-kind-init : goal.loop-kind-init
loop-kind-init c = over_none (ltb 3)

pub loop-kind-preserved : goal.loop-kind-preserved
loop-kind-preserved c = over_next (ltb 3) c.args.kinds.now c.loop-kind.kind-index c.loop-kind.over c.loop-kind.invariant 0 _ c.loop-kind-test.true (search (rules, tests))
