use Rattle.std.proofs.Common.{sym}
use Rattle.aspath.proofs.Parted.{kind_ok}
use Rattle.aspath_numbers.proofs.Last.{last_known, none_last, length_fits, ends_last}
use Rattle.aspath_numbers.proofs.last_segment.Goals as goal

pub returns-in_err-kind : goal.returns-in_err-kind
returns-in_err-kind c = rw c.from_residual.ensures (none_last c.args.path.kinds.now c.args.path.lengths.now c.args.path.numbers.now (sym c.in_err-kind.ensures.value))

pub overflow_sub-path : goal.overflow_sub-path
overflow_sub-path c = length_fits c.args.path.kinds.now c.args.path.lengths.now c.args.path.numbers.now _ _ c.args.path.paired c.args.path.summed (sym c.in_ok-kind.ensures.value) (sym c.in_ok-length.ensures.value)

pub unwrap-requires : goal.unwrap-requires
unwrap-requires c = kind_ok _ _ c.try_from.ensures (last_known c.args.path.kinds.now _ _ c.args.path.known (sym c.in_ok-kind.ensures.value))

pub returns : goal.returns
returns c = ends_last c.args.path.kinds.now c.args.path.lengths.now c.args.path.numbers.now _ _ c.args.path.paired c.args.path.summed (sym c.in_ok-kind.ensures.value) (sym c.in_ok-length.ensures.value) _ _ (rw c.unwrap.ensures at c.try_from.ensures) c.split_at.ensures.back
