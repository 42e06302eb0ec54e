-- `codec::cursor_words` meets its contract. Assumes nothing.
use Rattle.codec.proofs.Writing.{cursor_written}
use borrow.Author.Rules.{rules}
use Rattle.codec.proofs.cursor_words.Goals as goal

ruleset laws = (cursor_written)

pub returns : goal.returns
returns c = search (laws, rules)
