use Rattle.std.proofs.Common.{Ok, ap}
use Rattle.aspath_numbers.proofs.Among.{contains_is}
use Rattle.aspath_numbers.proofs.contains_asn.Goals as goal

pub returns : goal.returns
returns c =
    let path = c.in_ok-path.path in
    rw (← c.in_ok-path.ensures) (ap (λ r. Ok r) (contains_is path.kinds.now path.lengths.now path.numbers.now c.args.asn path.paired path.summed _ c.contains.ensures.value))
