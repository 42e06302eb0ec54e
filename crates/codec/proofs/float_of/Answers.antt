-- `codec::float_of` meets its contract. Assumes nothing.
use Rattle.std.proofs.Common.{◌∙◌}
use lib.Ieee.{div, of_bits}
use Rattle.seconds.proofs.Bits.{float_or_nan}
use Rattle.codec.proofs.float_of.Goals as goal

pub returns : goal.returns
unfolding div of_bits
returns c = c.unwrap_or.ensures ∙ float_or_nan _ _ c.float_of_bits.ensures
