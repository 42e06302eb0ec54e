use Prim.Native.Nat.{◌-◌}
use lib.ListN.{length}
use Rattle.text_vectors.proofs.put_tokens.Given as goal

abbrev pub decreases-loop-a : goal.decreases-loop-a
decreases-loop-a l = length l.s - l.at
