-- What the program table2psv prints (01, Where a call says no, the last paragraph), for the whole of its input: line by line, as the lines come.
use Rattle.std.specs.Prelude.{ℕ, ◌+◌, ◌%◌, ◌^◌, Bool, false, cond, ◌&&◌, List, [], ◌∷◌, ◌++◌, length, pos, ◌==◌, nat_le, nat_lt, Float, Option, Some, None, Result, Ok, Err}
use Rattle.std.specs.Float.{fin}
use Rattle.scan.specs.Ascii.{ascii}
use Rattle.scan.specs.Lines.{lines}
use Rattle.decimal_display.specs.Printed.{decimal}
use Rattle.timestamp.specs.Dates.{infer_timestamp}
use Rattle.timestamp.specs.declared.InferError.{InferError}
use Rattle.timestamp.specs.declared.InferError.TheVariants.{NotUtf8}
use Rattle.elem.specs.Element.{spoilt}
use Rattle.elem.specs.declared.Element.{Element}
use Rattle.psv.specs.Line.{header_text, psv_text}
use Rattle.plain_reader.specs.Calls.{Answer, element, end, refused}
use Rattle.text_dump.specs.State.{turned}
use Rattle.text_dump.specs.Open.{Opening, opened, refused as notOpened, open_of}
use Rattle.text_dump.specs.Rules.{WithAsns}
use Rattle.text_dump.specs.Next.{next}
use Rattle.text_dump.specs.declared.State.{State}

-- what is to come
pub data Stage : Type 0 where
  -- the path line
  path : Stage
  -- a line scanned for the column header: the timestamp, how many lines of the listing have come, and their text
  header : Float → ℕ → List ℕ → Stage
  -- a body line: the reading state, and how many lines of the listing have come
  body : State → ℕ → Stage
  -- nothing more
  stopped : Stage

-- what is printed, and what is to come then
abbrev pub Step : Type 0
Step = List ℕ × Stage

abbrev pub feed : List ℕ
feed = 10 ∷ []

-- `refused=` and `line=`, each on a line
unfoldable pub refusal_text : ℕ → ℕ → List ℕ
refusal_text number line = ascii "refused=" ++ decimal number ++ feed ++ ascii "line=" ++ decimal line ++ feed

abbrev pub refuse : ℕ → ℕ → Step
refuse number line = (refusal_text number line, stopped)

-- 13
abbrev pub too_long : List ℕ → Bool
too_long text = nat_lt 65536 (length text)

-- no date means 0
abbrev pub dated : Result (Option Float) InferError → Step
dated (Ok (Some t)) = ([], header t 0 [])
dated (Ok None) = ([], header (fin false 0 (pos 0)) 0 [])
dated (Err NotUtf8) = refuse 3 0

-- the first n lines of the listing, opened: the PSV header once the table is open; where there is no column header yet, the next line, up to the 64th
abbrev pub scanned : Float → ℕ → List ℕ → Opening → Step
scanned t n text (opened σ) = (header_text ++ feed, body σ n)
scanned t n text (notOpened number line) = cond (number == 2 && nat_lt n 64) ([], header t n text) (refuse number line)

-- the n-th line has an element, and σ is behind it: printed to 65,536 bytes it is refused by 8, then by 9
abbrev pub printed_element : ℕ → State → Element → List ℕ → Step
printed_element n σ e asns =
    cond (spoilt e asns) (refuse 8 n) (cond (nat_le (length (psv_text e asns)) 65536) (psv_text e asns ++ feed, body σ n) (refuse 9 n))

-- what next answers of the n-th line
abbrev pub answered : ℕ → Answer WithAsns → State → Step
answered n (element e) σ = printed_element n σ e.0 e.1
answered n end σ = ([], body σ n)
answered n (refused number) σ = refuse number n

-- lines are counted in 64 bits
abbrev pub after : ℕ → ℕ
after n = (n + 1) % 2 ^ 64

-- a body line is a part of the table by itself
abbrev pub next_of : State → List ℕ → Answer WithAsns × State
next_of σ l = next (turned σ) l 16384

-- a line as it comes: 13 is tested before anything else about it
unfoldable pub on_line : Stage → List ℕ → Step
on_line path l = cond (too_long l) (refuse 13 0) (dated (infer_timestamp l))
on_line (header t n met) l = cond (too_long (met ++ l)) (refuse 13 (after n)) (scanned t (after n) (met ++ l) (open_of t (met ++ l)))
on_line (body σ n) l = cond (too_long l) (refuse 13 (after n)) (answered (after n) (next_of σ l).0 (next_of σ l).1)
on_line stopped l = ([], stopped)

-- the input's end: a table that is not open then has no column header
abbrev pub at_end : Stage → List ℕ
at_end path = refusal_text 2 0
at_end (header t n met) = refusal_text 2 0
at_end (body σ n) = []
at_end stopped = []

unfoldable pub printed_from : Stage → List (List ℕ) → List ℕ
printed_from g [] = at_end g
printed_from g (l ∷ ls) = (on_line g l).0 ++ printed_from (on_line g l).1 ls

-- the whole input
abbrev pub printed : List ℕ → List ℕ
printed input = printed_from path (lines input)
