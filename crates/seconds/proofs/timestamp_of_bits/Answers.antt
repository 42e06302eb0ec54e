use Rattle.seconds.proofs.Bits.{bits_one}
use Rattle.seconds.proofs.timestamp_of_bits.Goals as goal

pub returns : goal.returns
returns c = bits_one _ _ c.float_of_bits.ensures _ c.in_ok-t.was _ c.second_of.ensures _ c.in_ok-second_of.was
