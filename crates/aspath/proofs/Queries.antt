-- Laws of the calls that ask something of a path.
use mathlib.Core.Path.{◌≡◌, refl, sym, ap, ◌∙◌}
use mathlib.Core.List.{List, [], ◌∷◌}
use mathlib.Core.Logic.{⊎_elim}
use mathlib.Core.Bool.{Bool, true, false, cond, ◌&&◌, ◌||◌}
use Prim.Native.Nat.{ℕ, zero, suc, ◌+◌, ◌*◌, ◌≤◌, ◌<◌, ◌^◌}
use native.Mathlib.Nat.{mul_assoc, mul-one, zero-mul, mul-zero, mul-pos, pos_of_ne-zero, ne_of_gt, le-mul_of_pos_right, eq-zero-or-pos}
use native.Mathlib.Omega.{arith}
use lib.ListN.{length, length-append, length-map}
use lib.Dec.{eqb, eqb-suc-zero}
use borrow.Author.Tests.{lt-ltb, le-ltb, ne_eqb, eqb-true, eqb-false}
use Rattle.std.specs.Prelude.{Some, Ok, Err}
use Rattle.std.specs.List.{list_any}
use Rattle.aspath.specs.Lists.{fold_map, sum}
use Rattle.aspath.specs.Record.{Segment, cut, numbers_of}
use Rattle.aspath.specs.Queries.{segment_route_len, route_len, choices, variations, empty_set, no_route, variations_answer}
use Rattle.aspath.specs.declared.VariationsError.TheVariants.{TooMany}
use Rattle.aspath.proofs.Lists.{fold_step, fold_done}
use Rattle.aspath.proofs.Record.{cut_kinds, cut_numbers}

segment_small : (k l : ℕ) → segment_route_len k l ≤ 1 + l
segment_small k l = go (eqb k 0) (eqb k 1)
  where
    go : (a b : Bool) → cond a l (cond b 1 0) ≤ 1 + l
    go true b = omega arith
    go false true = omega arith
    go false false = omega arith

-- a route is no longer than the path has segments and numbers
pub route_len_small : (p : List Segment) → route_len p ≤ length p + length (numbers_of p)
unfolding fold_map
route_len_small [] = omega arith
route_len_small (x ∷ p) =
    simp length-append (omega (arith, segment_small x.kind (length x.numbers), route_len_small p))

-- and a path within the limits has few of both
pub route_len_bound : (ks ls ns : List ℕ) → length ks ≤ 4096 → length ns ≤ 16384 → length ls ≡ length ks → sum ls ≡ length ns
    → route_len (cut ks ls ns) ≤ 20480
route_len_bound ks ls ns a b c d =
    let kinds : length (cut ks ls ns) ≡ length ks = sym (length-map (cut ks ls ns) (λ x. x.kind)) ∙ ap length (cut_kinds ks ls ns (sym c)) in
    let numbers : length (numbers_of (cut ks ls ns)) ≡ length ns = ap length (cut_numbers ks ls ns (sym c) d) in
    omega (arith, route_len_small (cut ks ls ns), kinds, numbers)

eqb_mul : (a b : ℕ) → eqb a 0 || eqb b 0 ≡ eqb (a * b) 0
eqb_mul zero b = simp zero-mul
eqb_mul (suc a) zero = simp (mul-zero, eqb-suc-zero)
eqb_mul (suc a) (suc b) =
    simp (eqb-suc-zero, ne_eqb (suc a * suc b) 0 (ne_of_gt (mul-pos {m = suc a} {n = suc b} (omega arith) (omega arith))))

empty_choice : (k l : ℕ) → empty_set k l ≡ eqb (choices k l) 0
empty_choice k l = go (eqb k 1)
  where
    go : (a : Bool) → a && eqb l 0 ≡ eqb (cond a l 1) 0
    go true = refl
    go false = refl

-- there is no route exactly where a set has nothing to choose from
pub no_route_lem : (p : List Segment) → no_route p ≡ eqb (variations p) 0
unfolding fold_map
no_route_lem [] = refl
no_route_lem (x ∷ p) =
    rw (empty_choice x.kind (length x.numbers), no_route_lem p) (eqb_mul (choices x.kind (length x.numbers)) (variations p))

pub no_choice : (p : List Segment) → list_any (λ x. eqb (choices x.kind (length x.numbers)) 0) p ≡ no_route p
unfolding fold_map
no_choice [] = refl
no_choice (x ∷ p) = rw (empty_choice x.kind (length x.numbers), no_choice p)

pub no_variation : (p : List Segment) (r : Bool) → r ≡ no_route p → r ≡ true → Ok 0 ≡ variations_answer (Some p)
no_variation p r e t = simp (eqb-true (variations p) 0 (sym (no_route_lem p) ∙ sym e ∙ t))

pub some_variation : (p : List Segment) (r : Bool) → r ≡ no_route p → r ≡ false → 0 < variations p
some_variation p r e t = pos_of_ne-zero (eqb-false (variations p) 0 (sym (no_route_lem p) ∙ sym e ∙ t))

-- the product through one segment more
module _ (whole left rest : List Segment) (x : Segment) (t v : ℕ) (known : variations whole ≡ t * variations left) (first : left ≡ x ∷ rest) (is : v ≡ choices x.kind (length x.numbers)) where
  pub variations_step : variations whole ≡ t * v * variations rest
  variations_step = fold_step ◌*◌ 1 mul_assoc mul-one (λ y. choices y.kind (length y.numbers)) whole left t known x rest v first is

  so_far : 0 < variations whole → t * v ≤ variations whole
  so_far pos = rw variations_step (⊎_elim (λ z. absurd (omega (arith, rw z at variations_step, mul-zero (t * v)))) (λ z. le-mul_of_pos_right (t * v) z) (eq-zero-or-pos (variations rest)))

  pub variations_more : (p : ℕ) → p ≡ t * v → variations whole ≡ p * variations rest
  variations_more p same = rw same variations_step

  pub variations_over : ¬ (t * v < 2 ^ 64) → 0 < variations whole → Err TooMany ≡ variations_answer (Some whole)
  variations_over over pos = simp (le-ltb (variations whole) (2 ^ 64) (omega (arith, so_far pos, over)))

pub variations_done : (whole left : List Segment) (t : ℕ) → variations whole ≡ t * variations left → left ≡ [] → t < 2 ^ 64 → Ok t ≡ variations_answer (Some whole)
variations_done whole left t known none small =
    let is : t ≡ variations whole = fold_done ◌*◌ 1 mul_assoc mul-one (λ y. choices y.kind (length y.numbers)) whole left t known none in
    simp (← is, lt-ltb t (2 ^ 64) small)
