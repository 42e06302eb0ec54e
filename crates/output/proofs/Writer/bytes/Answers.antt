use Rattle.std.proofs.Common.{arith, sym, ◌∙◌}
use Rattle.std.proofs.Math.Seq.{take-length}
use Rattle.output.proofs.Writing.{full, first_bytes}
use Rattle.output.proofs.Writer.bytes.Goals as goal

pub returns-then-self-at : goal.returns-then-self-at
returns-then-self-at c = full _ _ c.if-self-at.true

pub returns-then-n-self : goal.returns-then-n-self
returns-then-n-self c =
    first_bytes _ _ _ _ _ c.if-self-at.false (omega arith) (omega arith) (c.copy.ensures ∙ sym (take-length c.args.text.now))

pub returns-else-n-self : goal.returns-else-n-self
returns-else-n-self c =
    let e = c.copy_first.ensures in
    first_bytes _ _ _ _ _ c.if-self-at.false (omega (arith, e.1, c.if-n-self.false)) (omega (arith, e.1)) (rw e.1 e.0)
