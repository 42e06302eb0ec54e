-- The plain reader (01, Reader), over any rules of lines.
use Rattle.std.specs.Prelude.{ℕ, Option, Some, None}
use mathlib.Core.List.{List, [], ◌∷◌, tail}
use Rattle.scan.specs.Lines.{lines}
use Rattle.plain_reader.specs.Rules.{Rules, Remembered, nothing, invalid, valid, Line, unreadable, passed, wrapped, route, replace}
use Rattle.plain_reader.specs.Calls.{Answer, element, end, refused, Call, Reader, Trace, first, run}

-- what it keeps: the part's lines left and a prefix
pub record PlainState (P : Type 0) : Type 0 where
  pub left : List (List ℕ)
  pub remembered : Remembered P

-- opening: the first part's lines, and as prefix nothing
abbrev pub opened : {P : Type 0} → List ℕ → PlainState P
opened p = record { left = lines p; remembered = nothing }

-- turn: the next part's lines, same prefix
abbrev pub turned_to : {P : Type 0} → List ℕ → PlainState P → PlainState P
turned_to p σ = record { left = lines p; remembered = σ.remembered }

module _ (L : Rules) where
  -- what next answers, and what it leaves
  abbrev pub Step : Type 0
  Step = Answer L.Element × PlainState L.Prefix

  module _ (before : PlainState L.Prefix) (k : L.Places) where
    -- a route under a valid prefix, the lines l behind it: an element, or a refusal, and then all is as before that next
    abbrev pub answer : L.Prefix → L.Route → List (List ℕ) → Option ℕ → Step
    answer p r l None = (element (L.yield p r), record { left = l; remembered = valid p })
    answer p r l (Some n) = (refused n, before)

    -- a route under what is remembered: only under a valid prefix is it answered, and next goes on otherwise
    abbrev pub answer_under : Remembered L.Prefix → L.Route → List (List ℕ) → Step → Step
    answer_under nothing r l go_on = go_on
    answer_under invalid r l go_on = go_on
    answer_under (valid p) r l go_on = answer p r l (L.refusal k r)

    -- one line, the lines l behind it: an unreadable one is answered with 6, and all is as before that next; a prefix-bearing one sets the prefix
    abbrev pub take_line : Line L.Prefix L.Route → Remembered L.Prefix → List (List ℕ) → (Remembered L.Prefix → Step) → Step
    take_line unreadable m l go_on = (refused 6, before)
    take_line passed m l go_on = go_on m
    take_line (wrapped p) m l go_on = go_on (valid p)
    take_line (route t r) m l go_on = answer_under (replace t m) r l (go_on (replace t m))

    -- lines, one after another, until one is answered; with no line left: End
    unfoldable pub take_lines : Remembered L.Prefix → List (List ℕ) → Step
    take_lines m [] = (end, record { left = []; remembered = m })
    take_lines m (x ∷ l) = take_line (L.classify x) m l (λ m'. take_lines m' l)

  -- next
  abbrev pub next_plain : L.Places → PlainState L.Prefix → Step
  next_plain k σ = take_lines σ k σ.remembered σ.left

  -- the plain reader: it looks at no text, for it was fed the parts
  abbrev pub plain : Reader L
  plain = record { State = PlainState L.Prefix; next = λ t k σ. next_plain k σ; turn = turned_to; remembered = λ σ. σ.remembered }

  -- its trace
  abbrev pub plain_trace : List (List ℕ) → List (Call L.Places) → Trace L
  plain_trace ps cs = run plain cs (opened (first ps)) [] (tail ps)
