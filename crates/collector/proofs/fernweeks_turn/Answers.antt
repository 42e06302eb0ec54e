-- `collector::fernweeks_turn` meets its contract. Assumes nothing.
use borrow.Author.Rules.{rules}
use Rattle.collector.proofs.Calls.{turn_state}
use Rattle.collector.proofs.fernweeks_turn.Goals as goal

pub returns : goal.returns
returns c = search (turn_state, c.slice_known-1.given, rules)
