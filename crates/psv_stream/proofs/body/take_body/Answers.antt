use Rattle.std.proofs.Common.{◌≡◌, rules, refl, ⊎_elim}
use Rattle.psv_stream.specs.Parts.{Kept, phase_of}
use Rattle.psv_stream.specs.declared.Phase.TheVariants as phase
use Rattle.psv_stream.proofs.Bodies.{first_kept}
use Rattle.psv_stream.proofs.Walks.{BodyEnds, body_ends, body_does, body_stays}
use Rattle.psv_stream.proofs.body.take_body.Goals as goal
use Rattle.psv_stream.proofs.body.take_body.Goals.{After-take_lines-taken}

ends : (c : After-take_lines-taken)
    → BodyEnds (phase.Body c.args.state c.args.number) c.args.input.now c.args.ended c.args.out.now (phase_of c.args.state c.take_lines-taken.result.place) c.take_lines-taken.result c.take_lines-taken.new.out
ends c =
    rw c.new-first.ensures.phase at
    (body_ends _ _ _ _ _ _ _ c.take_lines-taken.ensures c.args.ended (phase_of c.args.state) (λ f p. Kept f.1 f.0.now.start f.0.now.front_len p × (f.1 ≡ c.args.state) × (f.2 ≡ c.args.ended))
    (λ f f' p t o o' r i k. body_does f.1 c.args.state p k.text.now t f.2 c.args.ended k.room.now o k.left.now o' r (search rules) i.1 k.shows.0 i.2 k.shows.1 k.leaves)
    (λ f f' p q t o o' d v i k. (search rules, search rules, search rules))
    (first_kept c.args.state c.args.number _ c.new-first.ensures.remembers c.new-first.ensures.none_cached _ _ c.requires.fine c.requires.starts, refl, refl)
    (λ f f' p t o o' i k. body_stays f.1 p k.text.now f.2 k.room.now k.left.now (search rules)))

pub returns-in-Full : goal.returns-in-Full
returns-in-Full c = let e = ends (goal.at.returns-in-Full c).After-take_lines-taken in ⊎_elim (λ f. e.0 f _ c.body_ran.ensures) (λ f. absurd (e.1 f)) c.in-Full.is

pub returns-in-Starved : goal.returns-in-Starved
returns-in-Starved c = (ends (goal.at.returns-in-Starved c).After-take_lines-taken).2 c.in-Starved.is _ c.body_ran-in-Starved.ensures

pub returns-in-Stopped : goal.returns-in-Stopped
returns-in-Stopped c = (ends (goal.at.returns-in-Stopped c).After-take_lines-taken).3 c.in-Stopped.is _ c.stopped.ensures
