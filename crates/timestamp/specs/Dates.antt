-- Dates in a path (01, Dates, `infer_timestamp_from_path`).
use Rattle.std.specs.Float.Ieee.{Float}
use Rattle.std.specs.Prelude.{is_some, ℕ, zero, suc, ◌+◌, ◌-◌, ◌*◌, List, [], ◌∷◌, Bool, true, false, cond, not, ◌&&◌, ◌||◌, leb, eqb, length, get_or, drop, Option, Some, None, Result, Ok, Err}
use Rattle.decimal.specs.Decimal.{is_digit}
use Rattle.utf8.specs.Utf8.{readable}
use Rattle.seconds.specs.Seconds.{timestamp_of}
use Rattle.calendar.specs.Calendar.{is_date, days_before}
use Rattle.calendar.specs.declared.Date.{Date}
use Rattle.timestamp.specs.declared.InferError.{InferError}
use Rattle.timestamp.specs.declared.InferError.TheVariants.{NotUtf8}

-- b stands where the shape has p: '0' is any digit, another byte is itself
abbrev pub fits : ℕ → ℕ → Bool
fits p b = eqb b p || eqb p 48 && is_digit b

-- s begins with the shape
unfoldable pub has_shape : List ℕ → List ℕ → Bool
has_shape [] s = true
has_shape (p ∷ shape) [] = false
has_shape (p ∷ shape) (b ∷ s) = fits p b && has_shape shape s

-- 0000-00-00-0000 and 0000.00.00
abbrev pub dashed : List ℕ
dashed = 48 ∷ 48 ∷ 48 ∷ 48 ∷ 45 ∷ 48 ∷ 48 ∷ 45 ∷ 48 ∷ 48 ∷ 45 ∷ 48 ∷ 48 ∷ 48 ∷ 48 ∷ []

abbrev pub dotted : List ℕ
dotted = 48 ∷ 48 ∷ 48 ∷ 48 ∷ 46 ∷ 48 ∷ 48 ∷ 46 ∷ 48 ∷ 48 ∷ []

-- the number of the two digits from the place on
abbrev pub two : List ℕ → ℕ → ℕ
two s at = 10 * (get_or s at 0 - 48) + (get_or s (at + 1) 0 - 48)

-- the date at the front of s, in either shape
unfoldable pub date_of : List ℕ → Date
date_of s = record { year = 100 * two s 0 + two s 2; month = two s 5; day = two s 8 }

-- the second of a moment, counted from the start of the year 0: a date, hour to 23, minute to 59
unfoldable pub moment_of : Date → ℕ → ℕ → Option ℕ
moment_of d hour minute = cond (is_date d && leb hour 23 && leb minute 59) (Some (days_before d * 86400 + (hour * 3600 + minute * 60))) None

-- the moment of the YYYY-MM-DD-HHMM at the front of s
unfoldable pub moment_in : List ℕ → Option ℕ
moment_in s = moment_of (date_of s) (two s 11) (two s 13)

-- the byte before the place is an ASCII digit
unfoldable pub digit_before : List ℕ → ℕ → Bool
digit_before path zero = false
digit_before path (suc i) = is_digit (get_or path i 0)

-- a valid YYYY-MM-DD-HHMM stands at the place, not preceded by a digit
unfoldable pub is_dashed : List ℕ → ℕ → Bool
is_dashed path i = not (digit_before path i) && has_shape dashed (drop i path) && is_some (moment_in (drop i path))

-- a YYYY.MM.DD stands at the place, by shape
unfoldable pub is_dotted : List ℕ → ℕ → Bool
is_dotted path i = has_shape dotted (drop i path)

-- the first of the n places from i on at which the test holds
unfoldable pub first_from : (ℕ → Bool) → ℕ → ℕ → Option ℕ
first_from test i zero = None
first_from test i (suc n) = let r = first_from test (suc i) n in cond (test i) (Some i) r

-- the first place of the path
abbrev pub first_place : (ℕ → Bool) → List ℕ → Option ℕ
first_place test path = first_from test 0 (length path)

-- the first date with dots, at noon
abbrev pub noon_at : List ℕ → Option ℕ → Option ℕ
noon_at path (Some i) = moment_of (date_of (drop i path)) 12 0
noon_at path None = None

unfoldable pub noon_in : List ℕ → Option ℕ
noon_in path = noon_at path (first_place (is_dotted path) path)

-- the first valid moment with dashes; failing that, the noon of the first date with dots
abbrev pub moment_at : List ℕ → Option ℕ → Option ℕ
moment_at path (Some i) = moment_in (drop i path)
moment_at path None = noon_in path

unfoldable pub second_in : List ℕ → Option ℕ
second_in path = moment_at path (first_place (is_dashed path) path)

-- the answer
abbrev pub as_inferred : Option ℕ → Result (Option Float) InferError
as_inferred (Some o) = Ok (Some (timestamp_of o))
as_inferred None = (Ok None)

-- 01, Where a call says no: 3, path not UTF-8
unfoldable pub infer_timestamp : List ℕ → Result (Option Float) InferError
infer_timestamp path = cond (readable path) (as_inferred (second_in path)) (Err NotUtf8)

-- 01's number of the refusal, and 0 for an answer
abbrev pub number : Result (Option Float) InferError → ℕ
number (Ok (Some t)) = 0
number (Ok None) = 0
number (Err NotUtf8) = 3

-- the refusal that a path meets
abbrev pub refusal : List ℕ → ℕ
refusal path = cond (readable path) 0 3
