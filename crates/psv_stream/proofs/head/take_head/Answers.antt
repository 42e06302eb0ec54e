use Rattle.std.proofs.Common.{◌≡◌, rules, refl, ⊎_elim}
use Rattle.psv_stream.proofs.Walks.{HeadEnds, head_ends, head_does}
use Rattle.psv_stream.proofs.head.take_head.Goals as goal
use Rattle.psv_stream.proofs.head.take_head.Goals.{After-take_lines-taken}

ends : (c : After-take_lines-taken) → HeadEnds c.args.phase c.args.input.now c.args.ended c.args.out.now c.take_lines-taken.result.place c.take_lines-taken.result c.take_lines-taken.new.out
ends c =
    head_ends _ _ _ _ _ _ _ c.take_lines-taken.ensures c.args.ended (λ p. p) (λ f p. f.0 ≡ c.args.ended)
    (λ f f' p t o o' r i k. head_does p k.text.now t f.0 c.args.ended k.room.now o k.left.now o' r (search rules) k.shows.0 i k.shows.1 k.leaves) (λ f f' p q t o o' d v i k. search rules) refl

pub returns-in-Full : goal.returns-in-Full
returns-in-Full c = let e = ends (goal.at.returns-in-Full c).After-take_lines-taken in ⊎_elim e.0 e.1 c.in-Full.is

pub returns-in-Starved : goal.returns-in-Starved
returns-in-Starved c = (ends (goal.at.returns-in-Starved c).After-take_lines-taken).2 c.in-Starved.is

pub returns-in-Stopped : goal.returns-in-Stopped
returns-in-Stopped c = (ends (goal.at.returns-in-Stopped c).After-take_lines-taken).3 c.in-Stopped.is _ c.stopped.ensures
