use Rattle.std.proofs.Common.{◌+◌, ◌≤◌, length, arith}
use Rattle.psv_stream.proofs.Runs.{runs_head, runs_stopped, body_fine, runs_on, sum_inside, sum_within}
use Rattle.psv_stream.proofs.run.Goals as goal

pub returns-then-is_head : goal.returns-then-is_head
returns-then-is_head c = search runs_head

pub returns-in_default : goal.returns-in_default
returns-in_default c = search (runs_stopped, c.in_default.not-Body)

pub run_body-body-requires : goal.run_body-body-requires
run_body-body-requires c = search body_fine

pub overflow_add-result : goal.overflow_add-result
overflow_add-result c =
    let h : c.take_head-head.result.consumed + c.run_body-body.result.consumed ≤ length c.args.input.now =
    sum_inside _ _ _ _ _ _ c.take_head-head.ensures _ _ c.in-Body.is _ _ c.run_body-body.ensures in omega (arith, h, c.well_formed.1.0)

pub overflow_add-result-2 : goal.overflow_add-result-2
overflow_add-result-2 c =
    let h : c.take_head-head.result.written + c.run_body-body.result.written ≤ length c.args.out.now =
    sum_within _ _ _ _ _ _ c.take_head-head.ensures _ _ c.in-Body.is _ _ c.run_body-body.ensures in omega (arith, h, c.well_formed.1.1.1.0)

pub returns : goal.returns
returns c = runs_on _ _ _ _ _ _ c.take_head-head.ensures _ _ c.in-Body.is _ _ c.run_body-body.ensures
