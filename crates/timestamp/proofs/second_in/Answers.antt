use borrow.Author.Rules.{rules}
use Rattle.timestamp.specs.Dates.{is_dashed}
use Rattle.timestamp.proofs.Paths.{by_dashes}
use Rattle.timestamp.proofs.second_in.Goals as goal

pub returns-in-Some : goal.returns-in-Some
returns-in-Some c = by_dashes _ _ _ (c.first_place.ensures.first (is_dashed c.args.path.now) (search rules)) _ c.in-Some.is c.moment_in.ensures
