-- `codec::address_words` meets its contract. Assumes nothing.
use Rattle.codec.proofs.address_words.Goals as goal

pub returns-in-V4 : goal.returns-in-V4
returns-in-V4 c = cc

pub returns-in-V6 : goal.returns-in-V6
returns-in-V6 c = cc
