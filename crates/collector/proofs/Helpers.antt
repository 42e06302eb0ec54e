-- Where a state stands, written: what put_cursor's callees give. Assumes nothing.
use mathlib.Core.Path.{◌≡◌, ◌∙◌}
use mathlib.Core.List.{List, ◌++◌}
use Prim.Native.Nat.{ℕ, ◌-◌}
use lib.ListN.{length, take, drop}
use Rattle.output.specs.Output.{front}
use Rattle.output.proofs.Output.{front_part}
use Rattle.little.specs.Little.{bytes_of}
use Rattle.codec.specs.Words.{cursor_words}
use Rattle.text_dump.specs.declared.State.{State}

pub cursor_put : (σ : State) (w s new : List ℕ) → w ≡ cursor_words σ.remembered σ.position → new ≡ front (bytes_of w) (take (length s - 80) (drop 80 s))
    → take 80 s ++ (new ++ drop (length s - 80) (drop 80 s)) ≡ take 80 s ++ front (bytes_of (cursor_words σ.remembered σ.position)) (drop 80 s)
cursor_put σ w s new e f = front_part (bytes_of w) s new 80 f ∙ rw e
