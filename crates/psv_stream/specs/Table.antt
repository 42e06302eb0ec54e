-- A table of which no line is refused.
use Rattle.std.specs.Prelude.{ℕ, ◌≤◌, List, ◌++◌, length}
use Rattle.psv.specs.Line.{psv_text}
use Rattle.plain_reader.specs.Elements.{Suffices}
use Rattle.text_dump.specs.Rules.{WithAsns, rules}
use Rattle.text_dump.specs.declared.State.{State}
use Rattle.psv_stream.specs.Printed.{feed}

-- an element's line
abbrev pub element_line : WithAsns → List ℕ
element_line e = psv_text e.0 e.1 ++ feed

-- a body line that is not too long (13) and readable (6), and for whose AS numbers the places suffice (7)
abbrev pub Passes : State → List ℕ → Type 0
Passes σ l = (length l ≤ 65536) × Suffices (rules σ) 16384 ((rules σ).classify l)

-- an element whose line has room (9)
abbrev pub HasRoom : WithAsns → Type 0
HasRoom e = length (psv_text e.0 e.1) ≤ 65536
