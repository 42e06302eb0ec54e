-- `seconds::whole_number` meets its contract: x is the whole number n exactly where its bits are those of n's float.
-- Assumes nothing.
use Rattle.std.proofs.Common.{T, sym, subst, arith}
use lib.Ieee.{binary64, in_unsigned, to_unsigned, of_bits, neg}
use Rattle.seconds.proofs.Whole.{whole_no_nan, not_over, not_under, no, found, other_bits, too_large}
use Rattle.seconds.proofs.whole_number.Goals as goal
use Rattle.seconds.proofs.whole_number.Goals.{else-n-le9007199254740992-via-then-n-le9007199254740992+else-x-n, else-n-le9007199254740992-via-else-n-le9007199254740992, else-x-via-then-x+else-x-2, else-x-via-else-x}

pub truncating_f64_to_u64-n-requires : goal.truncating_f64_to_u64-n-requires
unfolding of_bits neg
truncating_f64_to_u64-n-requires c = record { lower_bound = subst T (sym c.if-x.true) tt; upper_bound = subst T (sym c.if-x-2.true) tt }

pub float_to_bits-n : goal.float_to_bits-n
float_to_bits-n c = whole_no_nan _ c.if-n-le9007199254740992.true

pub returns-then-x-n : goal.returns-then-x-n
returns-then-x-n c =
    found c.args.x c.truncating_f64_to_u64-n.result (subst T (sym c.well_formed.0.1) tt) c.truncating_f64_to_u64-n.ensures
    c.if-n-le9007199254740992.true (omega arith) c.if-x-n.true

pub returns-else-n-le9007199254740992 : goal.returns-else-n-le9007199254740992
returns-else-n-le9007199254740992 c =
    elim c.else-n-le9007199254740992.branch [
      | else-n-le9007199254740992-via-then-n-le9007199254740992+else-x-n w ↦
          other_bits c.args.x c.truncating_f64_to_u64-n.result (subst T (sym c.well_formed.0.1) tt) c.truncating_f64_to_u64-n.ensures w.if-x-n.false
      | else-n-le9007199254740992-via-else-n-le9007199254740992 w ↦
          too_large c.args.x c.truncating_f64_to_u64-n.result (subst T (sym c.well_formed.0.1) tt) c.truncating_f64_to_u64-n.ensures w.if-n-le9007199254740992.false
    ]

pub returns-else-x : goal.returns-else-x
unfolding of_bits neg
returns-else-x c =
    let x = c.args.x in
    elim c.else-x.branch [
      | else-x-via-then-x+else-x-2 w ↦ sym (no (in_unsigned binary64 64 x) (to_unsigned 64 x) (not_under x w.if-x-2.false))
      | else-x-via-else-x w ↦ sym (no (in_unsigned binary64 64 x) (to_unsigned 64 x) (not_over x w.if-x.false))
    ]
