use borrow.Author.Rules.{rules}
use Rattle.timestamp.specs.Dates.{is_dotted}
use Rattle.timestamp.proofs.Paths.{noon_at_lem}
use Rattle.timestamp.proofs.noon_in.Goals as goal

pub returns : goal.returns
returns c = noon_at_lem _ _ (c.first_place.ensures.first (is_dotted c.args.path.now) (search rules)) _ _ _ c.in_ok-i.was c.date_of.ensures c.moment.ensures
