use Rattle.std.proofs.Common.{arith}
use Rattle.little.proofs.Loops.{get_start, get_turn}
use Rattle.little.proofs.get_words.Goals as goal

pub loop-i-init : goal.loop-i-init
loop-i-init c = get_start c.args.b.now

pub loop-i-preserved : goal.loop-i-preserved
loop-i-preserved c =
    let k = c.loop-i in
    let parts = c.as_chunks.ensures in
    get_turn c.args.b.now k.words c.as_chunks.result.0.now k.i c.from_le_bytes.result k.invariant (omega arith) (omega (arith, parts.front_len)) parts.front c.from_le_bytes.ensures
