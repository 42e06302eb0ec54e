-- The routes of a path (AsPath::iter_routes), in the order in which AsPathRouteIter gives them.
use Rattle.std.specs.Prelude.{ℕ, ◌/◌, ◌%◌, ◌^◌, ◌≡◌, List, [], ◌∷◌, ◌++◌, map, cond, ◌&&◌, length, get_or, slice_get, ltb, leb, eqb, Option, Some, None, Result, Ok, Err}
use Rattle.output.specs.Output.{front}
use Rattle.aspath.specs.Lists.{concat_of}
use Rattle.aspath.specs.Record.{Segment}
use Rattle.aspath.specs.Queries.{variations}
use Rattle.aspath.specs.declared.VariationsError.{VariationsError}
use Rattle.aspath.specs.declared.VariationsError.TheVariants.{TooMany as TooManyV, Spoilt as SpoiltV}
use Rattle.aspath_routes.specs.declared.RouteError.{RouteError}
use Rattle.aspath_routes.specs.declared.RouteError.TheVariants.{FewPlaces, NoSuchRoute, TooMany, Spoilt}

-- a sequence stands in each route; of a set each number stands in a route of its own, the choices of the first set changing first; a confederation's segment stands in none
unfoldable pub routes : List Segment → List (List ℕ)
routes [] = [] ∷ []
routes (x ∷ p) =
    let r = routes p in
    cond (eqb x.kind 0) (map (λ t. x.numbers ++ t) r) (cond (eqb x.kind 1) (concat_of (λ t. map (λ a. a ∷ t) x.numbers) r) r)

-- AsPathNumberedRouteIter: what the route of number k takes from a segment, and the number that is left for the segments behind it
abbrev pub taken : ℕ → List ℕ → ℕ → List ℕ
taken kind numbers k = cond (eqb kind 0) numbers (cond (eqb kind 1) (get_or numbers (k % length numbers) 0 ∷ []) [])

abbrev pub left : ℕ → ℕ → ℕ → ℕ
left kind l k = cond (eqb kind 1 && ltb 0 l) (k / l) k

unfoldable pub numbered : List Segment → ℕ → List ℕ
numbered [] k = []
numbered (x ∷ p) k = taken x.kind x.numbers k ++ numbered p (left x.kind (length x.numbers) k)

-- the answer for so many places: 01's order, 10, 11, 12, 7
abbrev pub route_answer : Option (List Segment) → ℕ → List ℕ → Result ℕ RouteError
route_answer None k out = Err Spoilt
route_answer (Some p) k out = cond (ltb (variations p) (2 ^ 64)) (told (slice_get (routes p) k)) (Err TooMany)
  where
    told : Option (List ℕ) → Result ℕ RouteError
    told None = Err NoSuchRoute
    told (Some t) = cond (leb (length t) (length out)) (Ok (length t)) (Err FewPlaces)

-- the places afterwards: where they suffice, the route, and behind it what stood there
abbrev pub route_places : Option (List Segment) → ℕ → List ℕ → List ℕ
route_places None k out = out
route_places (Some p) k out = cond (ltb (variations p) (2 ^ 64)) (kept (slice_get (routes p) k)) out
  where
    kept : Option (List ℕ) → List ℕ
    kept None = out
    kept (Some t) = front t out

-- what the call answers, and what it leaves in the places
pub record Routed (p : Option (List Segment)) (k : ℕ) (out : List ℕ) (r : Result ℕ RouteError) (new : List ℕ) : Type 0 where
  pub told : r ≡ route_answer p k out
  pub left : new ≡ route_places p k out

-- a refusal to count the routes, as a call for one of them answers it
abbrev pub route_refusal : VariationsError → RouteError
route_refusal SpoiltV = Spoilt
route_refusal TooManyV = TooMany

-- 01's numbers of the refusals; 0 is an answer
abbrev pub route_number : Result ℕ RouteError → ℕ
route_number (Ok n) = 0
route_number (Err FewPlaces) = 7
route_number (Err Spoilt) = 10
route_number (Err TooMany) = 11
route_number (Err NoSuchRoute) = 12
