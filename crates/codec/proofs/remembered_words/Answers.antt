-- `codec::remembered_words` meets its contract. Assumes nothing.
use Rattle.codec.proofs.remembered_words.Goals as goal

pub returns-in-Nothing : goal.returns-in-Nothing
returns-in-Nothing c = cc

pub returns-in-Invalid : goal.returns-in-Invalid
returns-in-Invalid c = cc

pub returns-in-Valid : goal.returns-in-Valid
returns-in-Valid c = cc
