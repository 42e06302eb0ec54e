-- `codec::bits_of` meets its contract. Assumes nothing.
use Rattle.codec.proofs.Writing.{a_number, a_nan}
use Rattle.codec.proofs.bits_of.Goals as goal

pub float_to_bits-result : goal.float_to_bits-result
float_to_bits-result c = a_number c.args.t c.if-t.true

pub returns-else-t : goal.returns-else-t
returns-else-t c = a_nan c.args.t c.if-t.false
