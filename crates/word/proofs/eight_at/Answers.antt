-- `word::eight_at` meets its contract. Assumes nothing.
use Rattle.word.proofs.At.{eight}
use Rattle.word.proofs.eight_at.Goals as goal

pub returns-in-Some : goal.returns-in-Some
returns-in-Some c =
    let a = c.args in eight a.s.now c.in-Some.bytes.now a.at c.from_le_bytes.result c.requires c.in-Some.ensures.cases c.from_le_bytes.ensures
