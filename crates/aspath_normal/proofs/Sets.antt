-- The loops over sets: `single_sets` and `sort_sets`.
use mathlib.Core.Path.{◌≡◌, refl, sym, ap, ap₂, ◌∙◌}
use mathlib.Core.List.{List, [], ◌∷◌, ◌++◌, map, append_assoc, append-nil}
use mathlib.Core.Bool.{true, false, cond}
use Prim.Native.Nat.{ℕ, ◌+◌, ◌-◌, ◌≤◌, ◌<◌}
use native.Mathlib.Omega.{arith}
use lib.ListN.{length, get_or, set, take, drop, length-append, length-set, length-drop, drop_of_length-le, take-append-drop}
use lib.Seq.{set_at, get_or_at, take_at, drop_at, drop-drop, length-take-le}
use Rattle.sort.specs.Sort.{sorted}
use Rattle.sort.proofs.Sorting.{length_sorted}
use Rattle.aspath.specs.Lists.{fold_map, sum}
use Rattle.aspath.specs.Record.{cut, numbers_of}
use Rattle.aspath_normal.specs.Normal.{is_sequence, single_kind, sort_set}
use Rattle.aspath_normal.specs.declared.Entry.{Entry}
use Rattle.aspath_normal.specs.Entries.{entries}
use Rattle.aspath_normal.proofs.Moves.{uncons}

abbrev single : Entry → ℕ
single x = single_kind x.kind x.length

pub record Singling (ks₀ ls ks : List ℕ) (i : ℕ) : Type 0 where
  pub done : List ℕ
  pub size : length done ≡ i
  pub same : length ks₀ ≡ length ls
  pub within : i ≤ length ks₀
  pub long : length ks ≡ length ks₀
  pub now : ks ≡ done ++ drop i ks₀
  pub whole : map single (entries ks₀ ls) ≡ done ++ map single (entries (drop i ks₀) (drop i ls))

pub none_single : (ks ls : List ℕ) → length ks ≡ length ls → Singling ks ls ks 0
none_single ks ls e = record { done = []; size = refl; same = e; within = omega arith; long = refl; now = refl; whole = refl }

module _ (ks₀ ls ks : List ℕ) (i : ℕ) (d : Singling ks₀ ls ks i) where
  module _ (h : i < length ks) where
    more : i < length ks₀
    more = omega (arith, d.long)

    more_lengths : i < length ls
    more_lengths = omega (arith, more, d.same)

    now_next : ks ≡ d.done ++ (get_or ks₀ i 0 ∷ drop (i + 1) ks₀)
    now_next = d.now ∙ ap (λ l. d.done ++ l) (uncons ks₀ i more)

    next : get_or ks i 0 ≡ get_or ks₀ i 0
    next = rw now_next (get_or_at d.done (get_or ks₀ i 0) (drop (i + 1) ks₀) 0 i d.size)

    pub singled : (v : ℕ) → v ≡ single_kind (get_or ks i 0) (get_or ls i 0) → Singling ks₀ ls (set ks i v) (i + 1)
    unfolding entries
    singled v e =
        record {
          done = d.done ++ (v ∷ []);
          size = simp length-append (omega (arith, d.size));
          same = d.same;
          within = omega (arith, more);
          long = simp length-set d.long;
          now =
              ap (λ l. set l i v) now_next ∙ set_at d.done (get_or ks₀ i 0) (drop (i + 1) ks₀) v i d.size
              ∙ sym (append_assoc d.done (v ∷ []) (drop (i + 1) ks₀));
          whole =
              d.whole
              ∙ ap (λ l. d.done ++ l) (rw (uncons ks₀ i more, uncons ls i more_lengths) (ap (λ k. k ∷ map single (entries (drop (i + 1) ks₀) (drop (i + 1) ls))) (sym (e ∙ ap (λ k. single_kind k (get_or ls i 0)) next))))
              ∙ sym (append_assoc d.done (v ∷ []) (map single (entries (drop (i + 1) ks₀) (drop (i + 1) ls))));
        }

  pub all_single : length ks ≤ i → ks ≡ map single (entries ks₀ ls)
  unfolding entries
  all_single h = d.now ∙ sym (d.whole ∙ rw (drop_of_length-le ks₀ {i = i} (omega (arith, d.long))))

-- `sort_sets`: the numbers of the segments so far are done, the others as they were
pub record SortingSets (ks ls ns₀ ns : List ℕ) (i at : ℕ) : Type 0 where
  pub done : List ℕ
  pub size : length done ≡ at
  pub same : length ks ≡ length ls
  pub within : i ≤ length ks
  pub long : length ns ≡ length ns₀
  pub left : at + sum (drop i ls) ≡ length ns₀
  pub now : ns ≡ done ++ drop at ns₀
  pub whole : numbers_of (map sort_set (cut ks ls ns₀)) ≡ done ++ numbers_of (map sort_set (cut (drop i ks) (drop i ls) (drop at ns₀)))

pub none_sorted : (ks ls ns : List ℕ) → length ks ≡ length ls → sum ls ≡ length ns → SortingSets ks ls ns ns 0 0
none_sorted ks ls ns e f =
    record { done = []; size = refl; same = e; within = omega arith; long = refl; left = omega arith; now = refl; whole = refl }

module _ (ks ls ns₀ ns : List ℕ) (i at : ℕ) (d : SortingSets ks ls ns₀ ns i at) where
  module _ (h : i < length ks) where
    more_ls : i < length ls
    more_ls = omega (arith, d.same)

    left_now : at + get_or ls i 0 + sum (drop (i + 1) ls) ≡ length ns₀
    unfolding fold_map
    left_now = omega (arith, d.left, ap sum (uncons ls i more_ls))

    end_there : at + get_or ls i 0 ≤ length ns
    end_there = omega (arith, left_now, d.long)

    abbrev numbers : List ℕ
    numbers = take (get_or ls i 0) (drop at ns₀)

    numbers_long : length numbers ≡ get_or ls i 0
    numbers_long = length-take-le (get_or ls i 0) (drop at ns₀) (simp length-drop (omega (arith, left_now)))

    from_at : drop at ns ≡ drop at ns₀
    from_at = rw d.now (drop_at d.done (drop at ns₀) at d.size)

    rest : drop (get_or ls i 0) (drop at ns₀) ≡ drop (at + get_or ls i 0) ns₀
    rest = drop-drop (get_or ls i 0) at ns₀

    width : at + get_or ls i 0 - at ≡ get_or ls i 0
    width = omega arith

    up_to : take at ns ≡ d.done
    up_to = rw d.now (take_at d.done (drop at ns₀) at d.size)

    behind : drop (at + get_or ls i 0 - at) (drop at ns) ≡ drop (at + get_or ls i 0) ns₀
    behind = rw (width, from_at) rest

    -- y is what the segment's numbers become
    step : (y ns' : List ℕ) → y ≡ cond (is_sequence (get_or ks i 0)) numbers (sorted numbers) → length y ≡ get_or ls i 0
        → length ns' ≡ length ns → ns' ≡ d.done ++ (y ++ drop (at + get_or ls i 0) ns₀) → SortingSets ks ls ns₀ ns' (i + 1) (at + get_or ls i 0)
    unfolding cut fold_map
    step y ns' e l m f =
        record {
          done = d.done ++ y;
          size = simp length-append (omega (arith, d.size));
          same = d.same;
          within = omega arith;
          long = m ∙ d.long;
          left = left_now;
          now = f ∙ sym (append_assoc d.done y (drop (at + get_or ls i 0) ns₀));
          whole =
              d.whole
              ∙ ap (λ l. d.done ++ l) (rw (uncons ks i h, uncons ls i more_ls, rest, ← e))
              ∙ sym (append_assoc d.done y (numbers_of (map sort_set (cut (drop (i + 1) ks) (drop (i + 1) ls) (drop (at + get_or ls i 0) ns₀)))));
        }

    -- k and l are the segment's kind and length, as the loop reads them
    module _ (k l i' : ℕ) (kind : k ≡ get_or ks i 0) (long : l ≡ get_or ls i 0) (turn : i' ≡ i + 1) where
      pub set_end : at + l ≤ length ns
      set_end = omega (arith, end_there)

      pub sequence_passed : is_sequence k ≡ true → SortingSets ks ls ns₀ ns i' (at + l)
      sequence_passed f =
          rw (turn, long)
          (step numbers ns (rw (← kind, f)) numbers_long refl
          (d.now ∙ ap (λ l. d.done ++ l) (sym (take-append-drop (get_or ls i 0) (drop at ns₀)) ∙ ap (λ l. numbers ++ l) rest)))

      pub set_sorted : is_sequence k ≡ false → (t : List ℕ) → t ≡ sorted (take (at + l - at) (drop at ns))
          → SortingSets ks ls ns₀ (take at ns ++ (t ++ drop (at + l - at) (drop at ns))) i' (at + l)
      set_sorted f t g =
          let q : take at ns ++ (t ++ drop (at + l - at) (drop at ns)) ≡ d.done ++ (t ++ drop (at + get_or ls i 0) ns₀) =
          rw long (ap₂ (λ a b. a ++ (t ++ b)) up_to behind) in
          let e : t ≡ sorted numbers = g ∙ rw (long, width, from_at) in
          let m : length t ≡ get_or ls i 0 = ap length e ∙ length_sorted numbers ∙ numbers_long in
          let n : length (drop (at + get_or ls i 0) ns₀) ≡ length ns₀ - (at + get_or ls i 0) = length-drop (at + get_or ls i 0) ns₀ in
          rw (turn, q, long)
          (step t (d.done ++ (t ++ drop (at + get_or ls i 0) ns₀)) (rw (← kind, f) e) m
          (simp length-append (omega (arith, n, m, d.size, d.long, end_there))) refl)

  pub all_sorted : length ks ≤ i → ns ≡ numbers_of (map sort_set (cut ks ls ns₀))
  unfolding cut fold_map
  all_sorted h = d.now ∙ sym (d.whole ∙ rw (drop_of_length-le ks {i = i} h, append-nil d.done) (sym (append-nil d.done) ∙ ap (λ l. d.done ++ l) (sym (drop_of_length-le ns₀ {i = at} at_end_lem))))
    where
      at_end_lem : length ns₀ ≤ at
      at_end_lem = omega (arith, d.left, ap sum (drop_of_length-le ls {i = i} (omega (arith, d.same))))
