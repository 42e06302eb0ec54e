-- Laws of what a call for a route answers: one for each way.
use mathlib.Core.Path.{◌≡◌, refl}
use mathlib.Core.List.{List}
use mathlib.Core.Bool.{Bool, true, false, cond}
use Prim.Native.Nat.{ℕ, ◌≤◌, ◌<◌, ◌^◌}
use native.Mathlib.Omega.{arith}
use lib.ListN.{length}
use lib.Dec.{ltb}
use borrow.Author.Tests.{le-leb, lt-leb}
use Rattle.std.specs.Prelude.{Some, None, Result, Ok, Err, slice_get}
use Rattle.output.specs.Output.{Written}
use Rattle.output.proofs.Output.{kept, whole}
use Rattle.aspath.specs.Record.{Segment}
use Rattle.aspath.specs.Queries.{variations, variations_answer, route_len}
use Rattle.aspath.specs.declared.VariationsError.{VariationsError}
use Rattle.aspath.specs.declared.VariationsError.TheVariants.{TooMany as TooManyV}
use Rattle.aspath_routes.specs.Routes.{routes, numbered, Routed, route_refusal}
use Rattle.aspath_routes.specs.declared.RouteError.TheVariants.{FewPlaces, NoSuchRoute}
use Rattle.aspath_routes.proofs.Routes.{nth_route, nth_none, routes_count, numbered_length}

module _ (p : List Segment) (k : ℕ) (out : List ℕ) where
  pub route_refused : (e : VariationsError) → Err e ≡ variations_answer (Some p) → Routed (Some p) k out (Err (route_refusal e)) out
  route_refused e f = go (ltb (variations p) (2 ^ 64)) refl f
    where
      go : (t : Bool) → ltb (variations p) (2 ^ 64) ≡ t → ◌≡◌ {A = Result ℕ VariationsError} (Err e) (cond t (Ok (variations p)) (Err TooManyV))
          → Routed (Some p) k out (Err (route_refusal e)) out
      go true t g = let z : ◌≡◌ {A = ℕ} 0 1 = cc in absurd (omega arith)
      go false t g = let z : e ≡ TooManyV = cc in rw z (record { told = rw t; left = rw t })

  module _ (total : ℕ) (f : Ok total ≡ variations_answer (Some p)) where
    counted : (ltb (variations p) (2 ^ 64) ≡ true) × (variations p ≡ total)
    counted = go (ltb (variations p) (2 ^ 64)) refl f
      where
        go : (t : Bool) → ltb (variations p) (2 ^ 64) ≡ t → ◌≡◌ {A = Result ℕ VariationsError} (Ok total) (cond t (Ok (variations p)) (Err TooManyV))
            → (ltb (variations p) (2 ^ 64) ≡ true) × (variations p ≡ total)
        go true t g = (t, cc)
        go false t g = let z : ◌≡◌ {A = ℕ} 0 1 = cc in absurd (omega arith)

    pub route_beyond : total ≤ k → Routed (Some p) k out (Err NoSuchRoute) out
    route_beyond h = record { told = rw (counted.0, none_there); left = rw (counted.0, none_there) }
      where
        none_there : slice_get (routes p) k ≡ None
        none_there = nth_none (routes p) k (omega (arith, routes_count p, counted.1))

    module _ (h : k < total) (m : ℕ) (g : m ≡ route_len p) where
      there : slice_get (routes p) k ≡ Some (numbered p k)
      there = nth_route p k (omega (arith, counted.1))

      long : m ≡ length (numbered p k)
      long = cc (numbered_length p k)

      pub route_few : length out < m → Routed (Some p) k out (Err FewPlaces) out
      route_few i =
          record {
            told = rw (counted.0, there) (simp (← long, lt-leb m (length out) i));
            left = rw (counted.0, there) (kept (numbered p k) out m long i);
          }

      pub route_written : m ≤ length out → (new : List ℕ) (a : ℕ) → Written (numbered p k) out 0 new a → Routed (Some p) k out (Ok m) new
      route_written i new a w =
          record {
            told = rw (counted.0, there) (simp (← long, le-leb m (length out) i));
            left = rw (counted.0, there) (whole (numbered p k) out m long new a i w);
          }
