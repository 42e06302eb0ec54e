-- A program over `run`: it reads pieces of the input, runs over the bytes that it has, and prints.
use Rattle.std.specs.Prelude.{◌≡◌, ℕ, Bool, true, List, [], ◌∷◌, ◌++◌, take, drop}
use Rattle.psv_stream.specs.Run.{Runs}
use Rattle.psv_stream.specs.declared.Phase.{Phase}
use Rattle.psv_stream.specs.declared.Phase.TheVariants.{Stopped}
use Rattle.psv_stream.specs.declared.Ran.{Ran}

-- From a phase, with bytes that are not consumed and pieces still to come, it prints a text: reads and runs in any order, with any room for output.
pub data Drives : Phase → List ℕ → List (List ℕ) → List ℕ → Type 0 where
  -- a piece is read, behind the bytes that are not consumed
  reads : {p : Phase} {s piece : List ℕ} {pieces : List (List ℕ)} {text : List ℕ} → Drives p (s ++ piece) pieces text → Drives p s (piece ∷ pieces) text
  -- a run, told that the input has ended only if no piece is to come; what it wrote is printed
  runs : {p : Phase} {s : List ℕ} {pieces : List (List ℕ)} {text : List ℕ} {ended : Bool} {out : List ℕ} {r : Ran} {new : List ℕ} → (ended ≡ true → pieces ≡ [])
      → Runs p s ended out r new → Drives r.phase (drop r.consumed s) pieces text → Drives p s pieces (take r.written new ++ text)
  -- the last
  stops : {s : List ℕ} {pieces : List (List ℕ)} → Drives Stopped s pieces []
