-- What the calls on a path answer, said of its segments as aspath.rs says it.
use Rattle.std.specs.Prelude.{ℕ, ◌^◌, List, Bool, cond, ◌&&◌, length, ltb, eqb, Option, Some, None, Result, Ok, Err}
use Rattle.aspath.specs.Lists.{any, sum_of, product_of}
use Rattle.aspath.specs.Record.{Segment}
use Rattle.aspath.specs.declared.Spoilt.{Spoilt}
use Rattle.aspath.specs.declared.VariationsError.{VariationsError}
use Rattle.aspath.specs.declared.VariationsError.TheVariants.{TooMany, Spoilt as SpoiltV}

-- AsPathSegment::route_len, of a kind and a length: a sequence counts its numbers, a set counts 1, a confederation's segment nothing
abbrev pub segment_route_len : ℕ → ℕ → ℕ
segment_route_len k l = cond (eqb k 0) l (cond (eqb k 1) 1 0)

-- AsPath::route_len
abbrev pub route_len : List Segment → ℕ
route_len = sum_of (λ x. segment_route_len x.kind (length x.numbers))

-- how many numbers a route may take from a segment of this kind and length: of a set, any one
abbrev pub choices : ℕ → ℕ → ℕ
choices k l = cond (eqb k 1) l 1

-- AsPath::num_route_variations: the true product, however large
abbrev pub variations : List Segment → ℕ
variations = product_of (λ x. choices x.kind (length x.numbers))

-- a set with nothing to choose from: with one in the path there is no route
abbrev pub empty_set : ℕ → ℕ → Bool
empty_set k l = eqb k 1 && eqb l 0

abbrev pub no_route : List Segment → Bool
no_route = any (λ x. empty_set x.kind (length x.numbers))

-- the refusal of a spoilt record
abbrev pub spoilt_record : Spoilt
spoilt_record = record {}

-- the answers; a spoilt record (nothing) comes first in each
abbrev pub route_len_answer : Option (List Segment) → Result ℕ Spoilt
route_len_answer (Some p) = Ok (route_len p)
route_len_answer None = Err spoilt_record

abbrev pub variations_answer : Option (List Segment) → Result ℕ VariationsError
variations_answer (Some p) = cond (ltb (variations p) (2 ^ 64)) (Ok (variations p)) (Err TooMany)
variations_answer None = Err SpoiltV

-- 01's numbers of the refusals; 0 is an answer
abbrev pub route_len_number : Result ℕ Spoilt → ℕ
route_len_number (Ok n) = 0
route_len_number (Err e) = 10

abbrev pub variations_number : Result ℕ VariationsError → ℕ
variations_number (Ok n) = 0
variations_number (Err SpoiltV) = 10
variations_number (Err TooMany) = 11
