use borrow.Author.Rules.{rules}
use Rattle.output.proofs.Writing.{holds}
use Rattle.psv.proofs.Longest.{front_le}
use Rattle.psv.proofs.put_front.Goals as goal

pub returns : goal.returns
returns c =
    rw (holds c.write_front.ensures c.new-w.ensures.0 (rw c.new-w.ensures.2 (front_le _ _ _ _ (search rules) (search rules))) c.text.ensures) at c.put.ensures
