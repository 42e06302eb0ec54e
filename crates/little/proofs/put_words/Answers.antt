use Rattle.std.proofs.Common.{◌∙◌, arith}
use Rattle.little.proofs.Loops.{put_start, put_turn, put_all, put_none}
use Rattle.little.proofs.put_words.Goals as goal

pub returns-then-out-words : goal.returns-then-out-words
returns-then-out-words c = put_none c.args.words.now c.args.out.now c.if-out-words.true

pub loop-i-init : goal.loop-i-init
loop-i-init c = put_start c.args.words.now c.args.out.now

pub loop-i-preserved : goal.loop-i-preserved
loop-i-preserved c =
    let k = c.loop-i in
    put_turn c.args.words.now c.args.out.now k.out k.i k.invariant c.copy_from_slice.new.self (omega arith) (omega (arith, c.type_inv.words k.i)) (c.copy_from_slice.ensures.after ∙ c.to_le_bytes.ensures)

pub returns : goal.returns
returns c = put_all c.args.words.now c.args.out.now c.loop-i.out c.loop-i.i c.loop-i.invariant (omega arith) (omega arith) (omega arith)
