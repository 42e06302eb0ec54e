-- Which numbers a path has, said of its segments as aspath.rs says it.
use Rattle.std.specs.Prelude.{ℕ, ◌-◌, Bool, cond, ◌&&◌, ◌||◌, List, length, ltb, eqb, slice_get, Option, Some, None, Result, Ok, Err}
use Rattle.aspath.specs.Lists.{any}
use Rattle.aspath.specs.Record.{Segment, numbers_of}
use Rattle.aspath.specs.Queries.{spoilt_record}
use Rattle.aspath.specs.declared.Spoilt.{Spoilt}

-- AsPath::contains_asn
abbrev pub contains : ℕ → List Segment → Bool
contains a p = any (λ n. eqb n a) (numbers_of p)

-- whether a segment of this kind and length ends in one number: a sequence that is not empty, or a set of one
abbrev pub single : ℕ → ℕ → Bool
single k l = (eqb k 0 && ltb 0 l) || (eqb k 1 && eqb l 1)

-- AsPath::get_origin_opt: the last number of the last segment
abbrev pub origin_of : Option Segment → Option ℕ
origin_of (Some x) = cond (single x.kind (length x.numbers)) (slice_get x.numbers (length x.numbers - 1)) None
origin_of None = None

-- AsPath::get_collector_opt: the first number of the first segment
abbrev pub collector_of : Option Segment → Option ℕ
collector_of (Some x) = cond (single x.kind (length x.numbers)) (slice_get x.numbers 0) None
collector_of None = None

-- the answers; a spoilt record (nothing) comes first in each
abbrev pub contains_answer : ℕ → Option (List Segment) → Result Bool Spoilt
contains_answer a (Some p) = Ok (contains a p)
contains_answer a None = Err spoilt_record

abbrev pub origin_answer : Option (List Segment) → Result (Option ℕ) Spoilt
origin_answer (Some p) = Ok (origin_of (slice_get p (length p - 1)))
origin_answer None = Err spoilt_record

abbrev pub collector_answer : Option (List Segment) → Result (Option ℕ) Spoilt
collector_answer (Some p) = Ok (collector_of (slice_get p 0))
collector_answer None = Err spoilt_record

-- 01's numbers of the refusals; 0 is an answer
abbrev pub contains_number : Result Bool Spoilt → ℕ
contains_number (Ok b) = 0
contains_number (Err e) = 10

abbrev pub end_number : Result (Option ℕ) Spoilt → ℕ
end_number (Ok a) = 0
end_number (Err e) = 10
