use Rattle.std.proofs.Common.{◌≡◌, ◌+◌, ◌-◌, take, length, arith}
use Rattle.output.proofs.Copying.{step_copied, fewer, last_copied}
use Rattle.output.proofs.copy_many.Goals as goal
use Rattle.output.proofs.copy_many.Goals.{else-loop-i-test, then-loop-i-test+else-i-step-last}

pub loop-i-preserved : goal.loop-i-preserved
loop-i-preserved g c =
    step_copied c.args.text.now c.loop-i.out c.copy_step.new.out c.loop-i.i g.row.N (omega arith) (omega arith) c.loop-i.invariant c.copy_step.ensures

pub returns : goal.returns
returns g c =
    let t = c.args.text.now in
    let last = length t - g.row.N in
    let front : take (length t - g.row.N) c.loop-i-test.out ≡ take (length t - g.row.N) t =
    elim c.loop-i-test.branch [
      | else-loop-i-test w ↦ rw w.out-is (fewer t c.loop-i.out c.loop-i.i last w.loop-i-test.false c.loop-i.invariant)
      | then-loop-i-test+else-i-step-last w ↦
          rw w.out-is
          (fewer t w.copy_step.new.out (c.loop-i.i + g.row.N) last (omega arith)
          (step_copied t c.loop-i.out w.copy_step.new.out c.loop-i.i g.row.N (omega arith) (omega arith) c.loop-i.invariant w.copy_step.ensures))
    ] in
    last_copied t c.loop-i-test.out c.copy_step-2.new.out last g.row.N (omega arith) (omega arith) (omega arith) front c.copy_step-2.ensures
