-- Demand 3, over any rules and any reader.
use Rattle.std.specs.Prelude.{ℕ, ◌+◌, ◌≡◌, length, Option, Some}
use mathlib.Core.List.{List, [], ◌∷◌, map, flatten, tail, sum}
use Rattle.plain_reader.specs.Lists.{Each}
use Rattle.scan.specs.Lines.{Cuts}
use Rattle.plain_reader.specs.Rules.{Rules, nothing}
use Rattle.plain_reader.specs.Calls.{Answer, element, end, refused, Call, Reader, Trace, first, answers, trace}
use Rattle.plain_reader.specs.Plain.{plain_trace}
use Rattle.plain_reader.specs.Elements.{Readable, by_part, inherited, classified, alone}

module _ {E : Type 0} where
  -- the elements among answers
  unfoldable pub found : List (Answer E) → List E
  found [] = []
  found (element e ∷ l) = e ∷ found l
  found (end ∷ l) = found l
  found (refused n ∷ l) = found l

  -- End is among the answers
  unfoldable pub Ends : List (Answer E) → Type 0
  Ends [] = ⊥
  Ends (element e ∷ l) = Ends l
  Ends (end ∷ l) = Unit {0}
  Ends (refused n ∷ l) = Ends l

  -- End is among the answers in each part
  unfoldable pub EndsEach : List (List ℕ) → List (List (Answer E)) → Type 0
  EndsEach [] gs = Unit {0}
  EndsEach (p ∷ ps) [] = ⊥
  EndsEach (p ∷ ps) (g ∷ gs) = Ends g × EndsEach ps gs

module _ (L : Rules) where
  -- all elements of a trace, in order
  abbrev pub elements : Trace L → List L.Element
  elements w = flatten (map found (answers w))

  -- next has said End in each part
  abbrev pub Finished : List (List ℕ) → List (Call L.Places) → Type 0
  Finished ps cs = EndsEach ps (answers (plain_trace L ps cs))

  -- what demand 3 says of a reader with its opening, of a header, a list of parts and a list of calls
  pub record Demand3 (A : Reader L) (opening : List ℕ → Option A.State) (header : List ℕ) (ps : List (List ℕ)) (cs : List (Call L.Places)) : Type 0 where
    -- opening accepts, and all of next's answers, part by part, and the remembered prefix at the end are those of the plain reader;
    -- so what is said below of the plain reader's trace is said of this reader's
    pub same : trace A opening header ps cs ≡ Some (plain_trace L ps cs)
    -- next says End in each part only where all lines are readable
    pub readable : Finished ps cs → Each (λ (p : List ℕ). Each Readable (classified L p)) ps
    -- a text that is read alone, as the only part, to its End gives the elements `alone`, whatever the calls
    pub read_alone : (t : List ℕ) (ds : List (Call L.Places)) → Finished (t ∷ []) ds → elements (plain_trace L (t ∷ []) ds) ≡ alone L t
    -- where each part but the last is empty or ends in a line feed, the elements are those of the joined body, in the same order
    pub joined : Finished ps cs → Cuts ps → elements (plain_trace L ps cs) ≡ alone L (flatten ps)
    -- their count is the sum over the parts read alone plus, in each part that inherits a valid prefix, the blank-prefix routes ahead of its first prefix-bearing line
    pub counted : Finished ps cs → length (elements (plain_trace L ps cs)) ≡ sum ◌+◌ 0 (map (λ (p : List ℕ). length (alone L p)) ps) + inherited L nothing (map (classified L) ps)
    -- part by part they are those routes under the inherited prefix, then the part's own
    pub parted : Finished ps cs → map found (answers (plain_trace L ps cs)) ≡ by_part L nothing (map (classified L) (first ps ∷ tail ps))
