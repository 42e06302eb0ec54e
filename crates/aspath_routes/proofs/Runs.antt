-- Laws of dropping repeats.
use mathlib.Core.Path.{◌≡◌, refl}
use mathlib.Core.List.{List, [], ◌∷◌}
use mathlib.Core.Bool.{Bool, true, false, cond}
use Prim.Native.Nat.{ℕ, ◌+◌, ◌-◌}
use native.Mathlib.Numerals.{one-add}
use native.Mathlib.Omega.{arith}
use lib.ListN.{length, take, drop, length-drop}
use lib.Seq.{take_all}
use lib.Dec.{eqb}
use borrow.Author.Tests.{eqb-true}
use Rattle.std.specs.List.{prefix_len}
use Rattle.aspath_routes.specs.Runs.{after, runs}

-- with no repeats to drop all numbers stay
after_all : (a : ℕ) (s : List ℕ) → after false a s ≡ s
unfolding after
after_all a [] = refl
after_all a (b ∷ s) = rw (after_all b s)

runs_all : (s : List ℕ) → runs false s ≡ s
unfolding runs
runs_all [] = refl
runs_all (a ∷ s) = rw (after_all a s)

-- else those that equal the first one go
run_dropped : (a : ℕ) (s : List ℕ) → runs true (drop (prefix_len (λ b. eqb b a) s) s) ≡ after true a s
unfolding runs after
run_dropped a [] = refl
run_dropped a (b ∷ s) = go (eqb b a) refl (run_dropped a s)
  where
    go : (t : Bool) → eqb b a ≡ t → runs true (drop (prefix_len (λ c. eqb c a) s) s) ≡ after true a s
        → runs true (drop (cond t (1 + prefix_len (λ c. eqb c a) s) 0) (b ∷ s)) ≡ cond t (after true b s) (b ∷ after true b s)
    go true e known = let z : b ≡ a = eqb-true b a e in rw (z, one-add) known
    go false e known = refl

pub without_run : (d : Bool) (a n : ℕ) (s : List ℕ) → d ≡ true → n ≡ prefix_len (λ b. eqb b a) s → runs d (take (length s - n) (drop n s)) ≡ after d a s
without_run d a n s t e = rw (t, take_all (length s - n) (drop n s) (omega (arith, length-drop n s)), e) (run_dropped a s)

pub with_all : (d : Bool) (a : ℕ) (s : List ℕ) → d ≡ false → runs d s ≡ after d a s
with_all d a s t = rw (t, runs_all s, after_all a s)
