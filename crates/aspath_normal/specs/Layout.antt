-- What the calls answer, and what they leave in the lent lists (01, Dates, detection, PSV, paths: in-place calls set freed places to 0).
use Rattle.std.specs.Prelude.{ℕ, ◌-◌, List, ◌++◌, length, drop, replicate, Option, Some, None, Result, Ok, Err}
use Rattle.aspath.specs.declared.Spoilt.{Spoilt}
use Rattle.aspath.specs.Queries.{spoilt_record}
use Rattle.aspath.specs.Record.{Segment, numbers_of}
use Rattle.aspath_normal.specs.declared.Counts.{Counts}

-- n places: `new`, then zeros
abbrev pub padded : ℕ → List ℕ → List ℕ
padded n new = new ++ replicate (n - length new) 0

-- the first n places of a list hold `new`, then zeros; those beyond are kept
abbrev pub in_place : ℕ → List ℕ → List ℕ → List ℕ
in_place n new old = padded n new ++ drop n old

-- a lent list after the call: of a spoilt record it is as it was
unfoldable pub after : (List Segment → List ℕ) → Option (List Segment) → ℕ → List ℕ → List ℕ
after layout (Some p) n old = in_place n (layout p) old
after layout None n old = old

-- the counts of a record that holds a path and no more
abbrev pub counts_of : List Segment → Counts
counts_of p = record { segments = length p; numbers = length (numbers_of p) }

-- the counts of the new record
unfoldable pub counts : (List Segment → List Segment) → Option (List Segment) → Result Counts Spoilt
counts f (Some p) = Ok (counts_of (f p))
counts f None = Err spoilt_record

-- 01's number of a refusal; 0 is an answer
abbrev pub normalised_number : Result Counts Spoilt → ℕ
normalised_number (Ok c) = 0
normalised_number (Err e) = 10
