use Rattle.std.proofs.Common.{◌∙◌, sym, ap, length, rules}
use Rattle.aspath_routes.proofs.Joined.{next_part, no_part, next_number}
use Rattle.aspath_routes.proofs.NumbersIterator.next.Goals as goal

pub returns-in_err-self-clause-steps : goal.returns-in_err-self-clause-steps
returns-in_err-self-clause-steps c =
    let left = c.in_err-self.ensures.steps in
    rw c.from_residual.ensures (
      sym c.loop-self.invariant.1 ∙ no_part c.loop-self.self.dedup _ _ (search rules) left.0,
      no_part c.loop-self.self.dedup _ _ (search rules) left.1,
    )

pub loop-self-preserved : goal.loop-self-preserved
loop-self-preserved c = (c.loop-self.invariant.0, sym (next_part c.loop-self.self.dedup _ _ (search rules) _ _ c.in_ok-self.ensures.steps) ∙ c.loop-self.invariant.1)

pub returns-clause-steps : goal.returns-clause-steps
returns-clause-steps c = sym c.loop-self.invariant.1 ∙ next_number c.loop-self.self.dedup _ _ _ _ _ c.in_ok-first.ensures.cases.0 c.after-self.ensures

pub returns-clause-goes : goal.returns-clause-goes
returns-clause-goes c =
    let step = sym c.loop-self.invariant.1 ∙ next_number c.loop-self.self.dedup _ _ _ _ _ c.in_ok-first.ensures.cases.0 c.after-self.ensures in
    let shorter = ap length step in search rules
