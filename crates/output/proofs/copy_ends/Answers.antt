use Rattle.std.proofs.Common.{◌≡◌, ◌-◌, take, length, refl, arith, zero-add}
use Rattle.output.proofs.Copying.{step_copied, fewer, last_copied}
use Rattle.output.proofs.copy_ends.Goals as goal

pub returns : goal.returns
returns g c =
    let t = c.args.text.now in
    let n = g.row.N in
    let k = step_copied t c.args.out.now c.copy_step.new.out 0 n (omega arith) (omega arith) refl c.copy_step.ensures in
    let first : take n c.copy_step.new.out ≡ take n t = rw zero-add at k in
    let front = fewer t c.copy_step.new.out n (length t - n) (omega arith) first in
    last_copied t c.copy_step.new.out c.copy_step-2.new.out (length t - n) n (omega arith) (omega arith) (omega arith) front c.copy_step-2.ensures
