use borrow.Author.Rules.{rules}
use Rattle.columns.proofs.Laws.{line_ends}
use Rattle.columns.proofs.words_begin.Goals as goal

pub returns-in_default-next_word : goal.returns-in_default-next_word
returns-in_default-next_word c = search (line_ends, rules)
