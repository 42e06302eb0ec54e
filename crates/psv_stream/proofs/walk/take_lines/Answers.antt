use Rattle.std.proofs.Common.{rules, arith, refl}
use Rattle.psv_stream.proofs.Walks.{first_before, inside, within, stops_within, fewer, goes_on, stops, starves, leaves, full}
use Rattle.psv_stream.proofs.walk.take_lines.Goals as goal

pub loop-answer-init : goal.loop-answer-init
loop-answer-init g c = record { lines = first_before _ _ _ _ _ _ c.requires.1.1.0; going = refl }

pub overflow_add-taken : goal.overflow_add-taken
overflow_add-taken g c =
    let h = stops_within _ _ _ _ _ _ c.requires.1.1.1 _ _ _ _ _ c.loop-answer.invariant.lines _ _ _ c.in-Some.ensures _ c.in-Stops.is in
    omega (arith, h, c.well_formed.1.1.0.0, c.loop-answer.auto.out)

pub overflow_add-taken-in-Took : goal.overflow_add-taken-in-Took
overflow_add-taken-in-Took g c =
    let h = inside _ _ _ _ _ _ c.requires.1.1.1 _ _ _ _ _ c.loop-answer.invariant.lines _ _ _ c.in-Some.ensures _ _ _ c.in-Took.is in
    omega (arith, h, c.well_formed.1.0)

pub overflow_add-taken-in-Took-2 : goal.overflow_add-taken-in-Took-2
overflow_add-taken-in-Took-2 g c =
    let h = within _ _ _ _ _ _ c.requires.1.1.1 _ _ _ _ _ c.loop-answer.invariant.lines _ _ _ c.in-Some.ensures _ _ _ c.in-Took.is in
    omega (arith, h, c.well_formed.1.1.0.0, c.loop-answer.auto.out)

pub returns-in-Stops : goal.returns-in-Stops
returns-in-Stops g c = rw c.ended-in-Stops.ensures (stops _ _ _ _ _ _ c.requires.1.1.1 _ _ _ _ _ c.loop-answer.invariant.lines _ _ _ c.in-Some.ensures _ c.in-Stops.is)

pub loop-answer-smaller : goal.loop-answer-smaller
loop-answer-smaller g c = fewer _ _ _ _ _ _ c.requires.1.1.1 _ _ _ _ _ c.loop-answer.invariant.lines _ _ _ c.in-Some.ensures _ _ _ c.in-Took.is

pub loop-answer-preserved : goal.loop-answer-preserved
loop-answer-preserved g c = record {
  lines = goes_on _ _ _ _ _ _ c.requires.1.1.1 _ _ _ _ _ c.loop-answer.invariant.lines _ _ _ c.in-Some.ensures _ _ _ c.in-Took.is (search rules);
  going = c.loop-answer.invariant.going;
}

pub returns : goal.returns
returns g c = full _ _ _ _ _ _ c.requires.1.1.1 _ _ _ _ _ c.loop-answer.invariant.lines c.loop-answer.step _ c.in_default.ensures _ c.loop-answer.invariant.going

pub returns-in-Starved : goal.returns-in-Starved
returns-in-Starved g c = rw c.ended.ensures (starves _ _ _ _ _ _ c.requires.1.1.1 _ _ _ _ _ c.loop-answer.invariant.lines _ _ _ c.in-Some.ensures c.in-Starved.is)

pub returns-in-Leaves : goal.returns-in-Leaves
returns-in-Leaves g c = rw c.ended-in-Leaves.ensures (leaves _ _ _ _ _ _ c.requires.1.1.1 _ _ _ _ _ c.loop-answer.invariant.lines _ _ _ c.in-Some.ensures c.in-Leaves.is)
