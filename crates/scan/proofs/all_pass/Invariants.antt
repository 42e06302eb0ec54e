use Rattle.std.proofs.Common.{◌≡◌, take}
use Rattle.scan.specs.Lists.{all}
use Rattle.scan.proofs.all_pass.Given as goal

abbrev pub invariant-loop-b : goal.invariant-loop-b
invariant-loop-b g l = l.all ≡ all g.T.ByteTest.passing (take l.b-index l.s)
