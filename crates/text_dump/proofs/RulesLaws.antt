-- What holds of every prefix that is read holds of those that the lines of a reading bring.
use Rattle.std.specs.Prelude.{Some}
use Prim.Native.Nat.{ℕ}
use mathlib.Core.Path.{◌≡◌}
use mathlib.Core.List.{List}
use Rattle.network.specs.Prefix.{read_prefix}
use Rattle.network.specs.declared.NetworkPrefix.{NetworkPrefix}
use Rattle.text_dump_line.specs.Line.{line_of}
use Rattle.text_dump_line.specs.declared.Line.{Line}
use Rattle.text_dump_line.specs.declared.Line.TheVariants.{Unreadable, Passed, Wrapped, Route}
use Rattle.text_dump_line.specs.declared.PrefixText.TheVariants.{Blank, Invalid, Valid}
use Rattle.text_dump_line.proofs.PrefixLaws.{BringsLine, line_brings}
use Rattle.plain_reader.specs.Refinement.{FitsLine}
use Rattle.text_dump.specs.Rules.{said, rules}
use Rattle.text_dump.specs.declared.State.{State}

module _ (Holds : NetworkPrefix → Type 0) (read-holds : (s : List ℕ) (p : NetworkPrefix) → read_prefix s ≡ Some p → Holds p) where
  pub lines_fit : (σ : State) (s : List ℕ) → FitsLine Holds ((rules σ).classify s)
  lines_fit σ s = go (line_of σ.columns s) (line_brings Holds read-holds σ.columns s)
    where
      go : (l : Line) → BringsLine Holds l → FitsLine Holds (said s l)
      go Unreadable h = tt
      go Passed h = tt
      go (Wrapped p) h = h
      go (Route e Blank) h = tt
      go (Route e Invalid) h = tt
      go (Route e (Valid p)) h = h
