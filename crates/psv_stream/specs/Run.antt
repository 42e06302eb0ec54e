-- A run of table2psv over the bytes at hand, of which there may be more to come.
use Rattle.std.specs.Prelude.{◌≡◌, ℕ, ◌-◌, ◌<◌, ◌≤◌, Bool, true, false, ◌⊎◌, List, ◌++◌, length, take, drop}
use Rattle.scan.specs.Lines.{lines}
use Rattle.input.specs.Input.{Later, Starved}
use Rattle.psv_stream.specs.Printed.{Stage, path, header, body, stopped, printed_from}
use Rattle.psv_stream.specs.declared.Phase.{Phase}
use Rattle.psv_stream.specs.declared.Phase.TheVariants.{Path, Header, Body, Stopped}
use Rattle.psv_stream.specs.declared.Ran.{Ran}

-- The header's lines are not consumed before the table is open: so many of the bytes at hand are of header lines that have come.
abbrev pub header_bytes : Phase → ℕ
header_bytes Path = 0
header_bytes (Header t n size) = size
header_bytes (Body σ n) = 0
header_bytes Stopped = 0

abbrev pub stage_of : Phase → List ℕ → Stage
stage_of Path s = path
stage_of (Header t n size) s = header t n (take size s)
stage_of (Body σ n) s = body σ n
stage_of Stopped s = stopped

-- what is printed from here on, where s is all of the input that is not consumed
unfoldable pub rest : Phase → List ℕ → List ℕ
rest p s = printed_from (stage_of p s) (lines (drop (header_bytes p) s))

-- a text is what is printed between two places, whatever comes later
abbrev pub Prints : Bool → Phase → List ℕ → List ℕ → Phase → List ℕ → Type 0
Prints ended p s text q t = (later : List ℕ) → Later ended later → rest p (s ++ later) ≡ text ++ rest q (t ++ later)

-- what a run answers and leaves in the lent list: the text first, and then what stood there
pub record Runs (p : Phase) (s : List ℕ) (ended : Bool) (out : List ℕ) (r : Ran) (new : List ℕ) : Type 0 where
  pub consumed : r.consumed ≤ length s
  pub written : r.written ≤ length out
  pub prints : Prints ended p s (take r.written new) r.phase (drop r.consumed s)
  pub kept : drop r.written new ≡ drop r.written out
  -- it goes on as long as it can: it stops for want of input, or of room for a line, or where all is printed
  pub wants_input : r.starved ≡ true → Starved (drop r.consumed s) (header_bytes r.phase) ended
  pub wants_room : r.starved ≡ false → (r.phase ≡ Stopped) ⊎ (length out - r.written < 65537)
