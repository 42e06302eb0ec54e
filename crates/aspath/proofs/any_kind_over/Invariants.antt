use Rattle.std.proofs.Common.{◌≡◌, take}
use lib.Dec.{ltb}
use Rattle.aspath.specs.Lists.{any}
use Rattle.aspath.proofs.any_kind_over.Given as goal

abbrev pub invariant-loop-kind : goal.invariant-loop-kind
invariant-loop-kind l = l.over ≡ any (ltb 3) (take l.kind-index l.kinds)
