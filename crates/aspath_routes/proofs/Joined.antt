-- Laws of a path's numbers as one list.
use mathlib.Core.Path.{◌≡◌, refl, sym, ap, ◌∙◌}
use mathlib.Core.List.{List, [], ◌∷◌, ◌++◌}
use mathlib.Core.Bool.{Bool, true, false, cond, ◌&&◌}
use Prim.Native.Nat.{ℕ, suc, ◌≤◌, ◌<◌}
use native.Mathlib.Omega.{arith}
use lib.ListN.{length, length-append}
use lib.Dec.{eqb}
use borrow.Author.Tests.{le-leb, lt-leb}
use Rattle.std.specs.Prelude.{Some, None, Ok, Err}
use Rattle.std.specs.List.{list_all}
use Rattle.std.specs.Iterator.{Drains, YieldsFirst}
use Rattle.std.proofs.lemmas.List.{nil_from_length}
use Rattle.std.proofs.lemmas.Iterator.Consumers.{YieldsList-from_first, count_from_yields_List}
use Rattle.output.specs.Output.{front}
use Rattle.output.proofs.Output.{kept}
use Rattle.aspath.specs.Lists.{fold_map, sum}
use Rattle.aspath.specs.Record.{Segment, cut, numbers_of}
use Rattle.aspath.proofs.Record.{cut_numbers}
use Rattle.aspath_routes.specs.Runs.{after, runs}
use Rattle.aspath_routes.specs.Joined.{simple, all_simple, joined, numbers_left, some_numbers, to_u32_vec, Answered}
use Rattle.aspath_routes.specs.declared.Numbers.{Numbers}
use Rattle.aspath_routes.specs.declared.NumbersError.TheVariants.{FewPlaces}

pub all_is : (p : List Segment) → list_all (λ x. simple x.kind (length x.numbers)) p ≡ all_simple p
unfolding fold_map
all_is [] = refl
all_is (x ∷ p) = rw (all_is p)

after_short : (d : Bool) (a : ℕ) (s : List ℕ) → length (after d a s) ≤ length s
unfolding after
after_short d a [] = omega arith
after_short d a (b ∷ s) = go (d && eqb b a) (after_short d b s)
  where
    go : (t : Bool) → length (after d b s) ≤ length s → length (cond t (after d b s) (b ∷ after d b s)) ≤ suc (length s)
    go true h = omega arith
    go false h = omega arith

pub runs_short : (d : Bool) (s : List ℕ) → length (runs d s) ≤ length s
unfolding runs
runs_short d [] = omega arith
runs_short d (a ∷ s) = omega (arith, after_short d a s)

-- no more numbers are kept than there are
joined_short : (d : Bool) (p : List Segment) → length (joined d p) ≤ length (numbers_of p)
unfolding fold_map
joined_short d [] = omega arith
joined_short d (x ∷ p) = simp length-append (omega (arith, runs_short d x.numbers, joined_short d p))

pub joined_small : (d : Bool) (ks ls ns : List ℕ) → length ns ≤ 16384 → length ls ≡ length ks → sum ls ≡ length ns → length (joined d (cut ks ls ns)) ≤ 16384
joined_small d ks ls ns few paired summed = omega (arith, joined_short d (cut ks ls ns), ap length (cut_numbers ks ls ns (sym paired) summed))

-- what is left where a segment has no more numbers: those of the next one, if there is one
module _ (d : Bool) (part : List ℕ) (left : List Segment) (empty : length part ≡ 0) where
  pub next_part : (rest : List Segment) (x : Segment) → left ≡ x ∷ rest → runs d part ++ joined d left ≡ runs d x.numbers ++ joined d rest
  unfolding runs fold_map
  next_part rest x first = rw (nil_from_length part empty, first)

  pub no_part : left ≡ [] → runs d part ++ joined d left ≡ []
  unfolding runs fold_map
  no_part none = rw (nil_from_length part empty, none)

-- and where it has some: the first, and what is left after it
pub next_number : (d : Bool) (part others : List ℕ) (left : List Segment) (a : ℕ) (rest : List ℕ) → part ≡ a ∷ others → runs d rest ≡ after d a others
    → runs d part ++ joined d left ≡ a ∷ (runs d rest ++ joined d left)
unfolding runs
next_number d part others left a rest first e = rw (first, e)

-- how many there are
pub counted : (s : Numbers) (l : List ℕ) (r : ℕ) → numbers_left s ≡ l → ((xs : List ℕ) × Drains (YieldsFirst numbers_left) s xs × (r ≡ length xs)) → r ≡ length l
counted s l r e ran = count_from_yields_List s r ran (YieldsList-from_first (λ x. x) numbers_left l e)

-- what the call answers and leaves in the places
module _ (d : Bool) (p : List Segment) (out : List ℕ) where
  none_said : to_u32_vec d p ≡ None → Answered d (Some p) out (Ok None) out
  none_said e = record { told = rw e; left = rw e }

  module _ (r : Bool) (f : r ≡ all_simple p) where
    pub vec_mixed : r ≡ false → Answered d (Some p) out (Ok None) out
    unfolding to_u32_vec
    vec_mixed t = none_said (simp (sym f ∙ t))

    module _ (t : r ≡ true) (m : ℕ) (g : m ≡ length (joined d p)) where
      pub vec_empty : m ≡ 0 → Answered d (Some p) out (Ok None) out
      unfolding to_u32_vec
      vec_empty z = none_said (simp (sym f ∙ t) (go (joined d p) (sym g ∙ z)))
        where
          go : (l : List ℕ) → length l ≡ 0 → some_numbers l ≡ None
          go [] e = refl
          go (a ∷ l) e = absurd (omega arith)

      module _ (z : m ≡ 0 → ⊥) where
        vec_is : to_u32_vec d p ≡ Some (joined d p)
        unfolding to_u32_vec
        vec_is = simp (sym f ∙ t) (go (joined d p) (λ e. z (g ∙ e)))
          where
            go : (l : List ℕ) → (length l ≡ 0 → ⊥) → some_numbers l ≡ Some l
            go [] e = absurd (e refl)
            go (a ∷ l) e = refl

        pub vec_few : length out < m → Answered d (Some p) out (Err FewPlaces) out
        vec_few h = record { told = rw vec_is (simp (← g, lt-leb m (length out) h)); left = rw vec_is (kept (joined d p) out m g h) }

        pub vec_written : m ≤ length out → (new : List ℕ) → new ≡ front (joined d p) out → Answered d (Some p) out (Ok (Some m)) new
        vec_written h new w = record { told = rw vec_is (simp (← g, le-leb m (length out) h)); left = rw vec_is w }
