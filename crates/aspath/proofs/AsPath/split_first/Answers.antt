use Rattle.std.proofs.Common.{◌∙◌, sym, ap, arith}
use Rattle.std.proofs.Common.{length}
use Rattle.aspath.proofs.Parted.{first_known, others_known, numbers_there, others_summed, none_left, kind_ok, parted_is}
use Rattle.aspath.proofs.AsPath.split_first.Goals as goal

pub returns-in_err-kind : goal.returns-in_err-kind
returns-in_err-kind c = rw c.from_residual.ensures (none_left c.args.self.kinds.now c.args.self.lengths.now c.args.self.numbers.now c.in_err-kind.ensures.cases)

pub split_at-requires : goal.split_at-requires
split_at-requires c = numbers_there _ _ _ (rw c.in_ok-length.ensures.cases.0 at c.args.self.summed)

pub unwrap-requires : goal.unwrap-requires
unwrap-requires c = kind_ok _ _ c.try_from.ensures (first_known _ _ (rw c.in_ok-kind.ensures.cases.0 at c.args.self.known))

pub invariant_of-rest : goal.invariant_of-rest
invariant_of-rest c =
    let kinds = c.in_ok-kind.ensures.cases in
    let lengths = c.in_ok-length.ensures.cases in
    record {
      few_segments = omega (arith, kinds.1);
      few_numbers = omega (arith, c.split_at.ensures.back_len);
      paired = omega (arith, kinds.1, lengths.1);
      known = others_known _ _ (rw kinds.0 at c.args.self.known);
      summed = others_summed _ _ _ (rw lengths.0 at c.args.self.summed) ∙ ap length (sym c.split_at.ensures.back);
    }

pub returns : goal.returns
returns c =
    parted_is _ _ _ _ _ _ _ _ _ _ c.in_ok-kind.ensures.cases.0 c.in_ok-length.ensures.cases.0 c.split_at.ensures.front c.split_at.ensures.back
    (rw c.unwrap.ensures at c.try_from.ensures)
