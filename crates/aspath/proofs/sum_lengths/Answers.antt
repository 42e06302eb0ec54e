use Rattle.std.proofs.Common.{◌≡◌, ◌∙◌, rules}
use Rattle.std.specs.List.{sum as total}
use Rattle.aspath.proofs.Lists.{sum_is}
use Rattle.aspath.proofs.sum_lengths.Goals as goal

pub returns : goal.returns
returns c = let h : c.sum.result ≡ total c.args.lengths.now = search rules in h ∙ sum_is _
