-- A list of calls, run on any reader of parts.
use Rattle.std.specs.Prelude.{ℕ, Option}
use mathlib.Core.List.{List, [], ◌∷◌, ◌++◌, tail}
use Rattle.std.specs.Option.{option_map}
use Rattle.plain_reader.specs.Rules.{Rules, Remembered}

-- what next answers: an element, End, or a refusal with its number
pub data Answer (E : Type 0) : Type 0 where
  element : E → Answer E
  end : Answer E
  refused : ℕ → Answer E

-- a call after opening: next with the places that it is lent, or turn
pub data Call (K : Type 0) : Type 0 where
  next : K → Call K
  turn : Call K

-- the first part, if any
abbrev pub first : List (List ℕ) → List ℕ
first [] = []
first (p ∷ ps) = p

module _ (L : Rules) where
  -- a reader, as a state machine: next takes the text at hand and the places, turn the part that is turned to; a refusing next too says which state it leaves
  pub record Reader : Type 1 where
    pub State : Type 0
    pub next : List ℕ → L.Places → State → Answer L.Element × State
    pub turn : List ℕ → State → State
    pub remembered : State → Remembered L.Prefix

  -- the trace of a run: next's answers in the part at hand, those in each part turned to, and the remembered prefix at the end
  pub record Trace : Type 0 where
    pub here : List (Answer L.Element)
    pub later : List (List (Answer L.Element))
    pub remembered : Remembered L.Prefix

module _ {L : Rules} where
  -- all answers, part by part
  abbrev pub answers : Trace L → List (List (Answer L.Element))
  answers w = w.here ∷ w.later

  -- an answer, and then the trace of the calls behind it
  abbrev pub answered : Answer L.Element → Trace L → Trace L
  answered a w = record { here = a ∷ w.here; later = w.later; remembered = w.remembered }

  -- a turn, and then the trace of the calls behind it
  abbrev pub turned : Trace L → Trace L
  turned w = record { here = []; later = answers w; remembered = w.remembered }

  module _ (A : Reader L) where
    -- calls from a state, with the text at hand and the parts still to come; a turn past the last part is no call, and is passed over
    unfoldable pub run : List (Call L.Places) → A.State → List ℕ → List (List ℕ) → Trace L
    run [] s t ps = record { here = []; later = []; remembered = A.remembered s }
    run (next k ∷ cs) s t ps = answered (A.next t k s).0 (run cs (A.next t k s).1 t ps)
    run (turn ∷ cs) s t [] = run cs s t []
    run (turn ∷ cs) s t (p ∷ ps) = turned (run cs (A.turn p s) p ps)

    -- opening takes the header with the first part, and the calls begin in that same text; where opening refuses there is no trace
    abbrev pub trace : (List ℕ → Option A.State) → List ℕ → List (List ℕ) → List (Call L.Places) → Option (Trace L)
    trace opening header ps cs = option_map (λ (s : A.State). run cs s (header ++ first ps) (tail ps)) (opening (header ++ first ps))
