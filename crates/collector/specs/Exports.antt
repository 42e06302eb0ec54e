-- The exported calls (01, Rust forms and their stand-ins): the number that each answers, and every byte of what it is lent. A lent part that is too
-- short is 9, tested first; bytes that spell no state are 5; then 01's order. Refusals leave all as it was.
use Rattle.std.specs.Prelude.{ℕ, cond, ◌||◌, List, length, ltb, Float, Option, Some, None, Result, Ok, Err}
use Rattle.output.specs.Output.{front}
use Rattle.text_dump_header.specs.declared.HeaderError.{HeaderError}
use Rattle.text_dump_header.specs.declared.TextDumpHeader.{TextDumpHeader}
use Rattle.text_dump_header.specs.declared.HeaderError.TheVariants.{Unreadable}
use Rattle.plain_reader.specs.Calls.{Answer, element, end, refused}
use Rattle.text_dump.specs.State.{turned}
use Rattle.text_dump.specs.Open.{Opening, opened, open_of}
use Rattle.text_dump.specs.Open as Open
use Rattle.text_dump.specs.Rules.{WithAsns}
use Rattle.text_dump.specs.Next.{next, lent}
use Rattle.text_dump.specs.declared.State.{State}
use Rattle.collector.specs.Bytes.{state_bytes, element_bytes, state_in}

-- the line at fault, from 1, where opening answers 1; else 0
abbrev pub line_at_fault : Result (TextDumpHeader × ℕ) HeaderError → ℕ
line_at_fault (Ok (h, at)) = 0
line_at_fault (Err (Unreadable n)) = n

-- opening: the number, and the state's bytes
abbrev pub opens_in : List ℕ → Opening → ℕ × List ℕ
opens_in state (opened σ) = (0, front (state_bytes σ) state)
opens_in state (Open.refused n line) = (n, state)

unfoldable pub open_left : List ℕ → Float → List ℕ → ℕ × List ℕ
open_left text time state = cond (ltb (length state) 128) (9, state) (opens_in state (open_of time text))

-- turn: the number, and the state's bytes
abbrev pub turns_in : List ℕ → Option State → ℕ × List ℕ
turns_in state (Some σ) = (0, front (state_bytes (turned σ)) state)
turns_in state None = (5, state)

unfoldable pub turn_left : List ℕ → ℕ × List ℕ
turn_left state = cond (ltb (length state) 128) (9, state) (turns_in state (state_in state))

-- next: the number (0 an element, 255 End, else the refusal), the state's bytes, the AS numbers, the element's bytes
pub record Left : Type 0 where
  pub number : ℕ
  pub state : List ℕ
  pub asns : List ℕ
  pub element : List ℕ

abbrev pub left : ℕ → List ℕ → List ℕ → List ℕ → Left
left n s a e = record { number = n; state = s; asns = a; element = e }

module _ (s a e : List ℕ) where
  abbrev pub answers_in : Answer WithAsns → State → Left
  answers_in (element x) σ = left 0 (front (state_bytes σ) s) (lent (element x) a) (front (element_bytes x.0) e)
  answers_in end σ = left 255 (front (state_bytes σ) s) a e
  answers_in (refused n) σ = left n s a e

  abbrev pub next_in : List ℕ → Option State → Left
  next_in part (Some σ) = answers_in (next σ part (length a)).0 (next σ part (length a)).1
  next_in part None = left 5 s a e

unfoldable pub next_left : List ℕ → List ℕ → List ℕ → List ℕ → Left
next_left s part a e = cond (ltb (length s) 128 || ltb (length e) 176) (left 9 s a e) (next_in s a e part (state_in s))
