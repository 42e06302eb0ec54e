use Rattle.std.proofs.Common.{◌≡◌, ◌*◌, ◌++◌, take, drop}
use Rattle.little.specs.Little.{bytes_of}
use Rattle.little.proofs.put_words.Given as goal

abbrev pub invariant-loop-i : goal.invariant-loop-i
invariant-loop-i l = l.out ≡ bytes_of (take l.i l.words) ++ drop (8 * l.i) l.initial.out
