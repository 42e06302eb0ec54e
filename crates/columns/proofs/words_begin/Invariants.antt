use mathlib.Core.Path.{◌≡◌}
use Prim.Native.Nat.{◌-◌}
use lib.ListN.{length, drop}
use Rattle.scan.specs.Words.{words}
use Rattle.columns.specs.Columns.{begins, words_begin}
use Rattle.columns.proofs.words_begin.Given as goal

abbrev pub invariant-name : goal.invariant-name
invariant-name l = words_begin l.name l.line l.at ≡ begins (words (drop l.j l.name)) (words (drop l.i l.line))

abbrev pub decreases-name : goal.decreases-name
decreases-name l = length l.name - l.j
