-- Reading by position: a cursor in the text at hand, in place of the plain reader's lines left.
use Rattle.std.specs.Prelude.{ℕ, ◌-◌, length, drop}
use mathlib.Core.List.{List, flatten}
use Rattle.scan.specs.Lines.{lines}
use Rattle.plain_reader.specs.Rules.{Rules, Remembered, nothing}
use Rattle.plain_reader.specs.Calls.{Answer}
use Rattle.plain_reader.specs.Plain.{PlainState, Step, next_plain}

-- a position in bytes, and the remembered prefix
pub record Cursor (P : Type 0) : Type 0 where
  pub at : ℕ
  pub remembered : Remembered P

module _ {P : Type 0} where
  -- opening sets the position after the header line
  abbrev pub after_header : List ℕ → Cursor P
  after_header h = record { at = length h; remembered = nothing }

  -- turning to the next part sets the position to 0 and keeps the rest
  abbrev pub to_start : Cursor P → Cursor P
  to_start c = record { at = 0; remembered = c.remembered }

  -- the plain reader's state for a cursor in a text: the lines from the position on are left
  abbrev pub view : List ℕ → Cursor P → PlainState P
  view t c = record { left = lines (drop c.at t); remembered = c.remembered }

  -- the cursor in a text of which these lines are left
  abbrev pub locate : List ℕ → PlainState P → Cursor P
  locate t σ = record { at = length t - length (flatten σ.left); remembered = σ.remembered }

module _ (L : Rules) where
  -- an answer, with the cursor where it leaves the text
  abbrev pub located : List ℕ → Step L → Answer L.Element × Cursor L.Prefix
  located t z = (z.0, locate t z.1)

  -- next reads on from the position, and sets it behind the lines that it took
  abbrev pub next_at : List ℕ → L.Places → Cursor L.Prefix → Answer L.Element × Cursor L.Prefix
  next_at t k c = located t (next_plain L k (view t c))
