-- `codec::state_words` meets its contract. Assumes nothing.
use Rattle.codec.proofs.Writing.{state_written}
use Rattle.codec.proofs.state_words.Goals as goal

pub returns : goal.returns
returns c =
    state_written c.args.s _ _ _ c.address_words-peer.ensures c.bits_of-bits.ensures c.remembered_words-m.ensures
