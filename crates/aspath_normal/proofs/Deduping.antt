-- The loop of `dedup_from`: the numbers kept so far stand at the front, zeros behind them up to the next number.
use mathlib.Core.Path.{◌≡◌, refl, sym, ap, ap₂, ◌∙◌}
use mathlib.Core.List.{List, [], ◌∷◌, ◌++◌, append_assoc, append-nil}
use Prim.Native.Nat.{ℕ, suc, ◌+◌, ◌-◌, ◌≤◌, ◌<◌}
use native.Mathlib.Nat.{sub-zero}
use native.Mathlib.Numerals.{add-one}
use native.Mathlib.Omega.{arith}
use lib.ListN.{length, get_or, set, take, drop, replicate, length-append, length-set, drop_of_length-le, take-append-drop}
use lib.Seq.{set_split, drop-set-lt}
use Rattle.sort.specs.Dedup.{dedup, dedup_after}
use Rattle.sort.proofs.Dedup.{after_same, after_other}
use Rattle.aspath_normal.specs.Layout.{padded}
use Rattle.aspath_normal.specs.Parts.{kept_from, FirstKept}
use Rattle.aspath_normal.proofs.Moves.{moved, zero_moved, uncons, at_next, cleared, added, finished}

pub record Deduping (t₀ : List ℕ) (y j : ℕ) (t : List ℕ) (last k i : ℕ) : Type 0 where
  pub done : List ℕ
  pub size : length done + 1 ≡ k
  pub order : k ≤ i
  pub within : i ≤ length t₀
  pub long : length t ≡ length t₀
  pub now : t ≡ moved done last (i - k) (drop i t₀)
  pub whole : kept_from t₀ y j ≡ done ++ (last ∷ dedup_after last (drop i t₀))

-- s as the function got it, with its gap of zeros
module _ (s : List ℕ) (gap : ℕ) (h : gap ≤ length s) (z : take gap s ≡ replicate gap 0) where
  pub none_left : gap ≡ length s → (0 ≡ length (dedup (drop gap s))) × (s ≡ padded (length s) (dedup (drop gap s)))
  unfolding dedup
  none_left e =
      rw (drop_of_length-le s {i = gap} (omega arith)) (
        refl,
        sym (take-append-drop gap s)
            ∙ rw (drop_of_length-le s {i = gap} (omega arith), z, e, append-nil (replicate {A = ℕ} (length s) 0), sub-zero),
      )

  module _ (n : gap ≡ length s → ⊥) where
    abbrev start : List ℕ
    start = set (set s gap 0) 0 (get_or s gap 0)

    rest_same : drop (gap + 1) start ≡ drop (gap + 1) s
    rest_same = drop-set-lt (gap + 1) (set s gap 0) 0 (get_or s gap 0) (omega arith) ∙ drop-set-lt (gap + 1) s gap 0 (omega arith)

    gap_cleared : set s gap 0 ≡ 0 ∷ (replicate gap 0 ++ drop (gap + 1) s)
    gap_cleared = rw (add-one, set_split s gap 0 (omega arith), z) (zero_moved gap (drop (suc gap) s))

    start_is : start ≡ moved [] (get_or s gap 0) (gap + 1 - 1) (drop (gap + 1) s)
    start_is =
        ap (λ l. set l 0 (get_or s gap 0)) gap_cleared
        ∙ (let q : gap ≡ gap + 1 - 1 = omega arith in ap (λ m. moved [] (get_or s gap 0) m (drop (gap + 1) s)) q)

    pub first_kept : FirstKept start (get_or s gap 0) (gap + 1)
    first_kept =
        record {
          order = omega arith;
          within = simp length-set (omega arith);
          front = start_is ∙ ap (λ r. moved [] (get_or s gap 0) (gap + 1 - 1) r) (sym rest_same);
        }

    kept_is : kept_from start (get_or s gap 0) (gap + 1) ≡ dedup (drop gap s)
    unfolding dedup
    kept_is = rw (rest_same, uncons s gap (omega arith))

    pub all_down : (r : ℕ) (t : List ℕ)
        → (r ≡ length (kept_from start (get_or s gap 0) (gap + 1))) × (t ≡ padded (length start) (kept_from start (get_or s gap 0) (gap + 1)))
        → (r ≡ length (dedup (drop gap s))) × (t ≡ padded (length s) (dedup (drop gap s)))
    all_down r t e = (e.0 ∙ ap length kept_is, e.1 ∙ ap₂ padded (length-set (set s gap 0) 0 (get_or s gap 0) ∙ length-set s gap 0) kept_is)

pub none_passed : (t : List ℕ) (y j : ℕ) → FirstKept t y j → Deduping t y j t y 1 j
none_passed t y j f =
    record { done = []; size = refl; order = f.order; within = f.within; long = refl; now = f.front; whole = refl }

module _ (t₀ : List ℕ) (y j : ℕ) (t : List ℕ) (last k i : ℕ) (d : Deduping t₀ y j t last k i) where
  module _ (h : i < length t) where
    more : i < length t₀
    more = omega (arith, d.long)

    place : i ≡ length d.done + 1 + (i - k)
    place = omega (arith, d.size, d.order)

    now_next : t ≡ moved d.done last (i - k) (get_or t₀ i 0 ∷ drop (i + 1) t₀)
    now_next = d.now ∙ rw (uncons t₀ i more)

    is_next : get_or t i 0 ≡ get_or t₀ i 0
    is_next = at_next d.done last (i - k) i place (get_or t₀ i 0) (drop (i + 1) t₀) t now_next

    whole_next : kept_from t₀ y j ≡ d.done ++ (last ∷ dedup_after last (get_or t i 0 ∷ drop (i + 1) t₀))
    whole_next = d.whole ∙ ap (λ r. d.done ++ (last ∷ dedup_after last r)) (uncons t₀ i more ∙ ap (λ a. a ∷ drop (i + 1) t₀) (sym is_next))

    pub equal_dropped : get_or t i 0 ≡ last → Deduping t₀ y j (set t i 0) last k (i + 1)
    equal_dropped e =
        record {
          done = d.done;
          size = d.size;
          order = omega (arith, d.order);
          within = omega (arith, more);
          long = simp length-set d.long;
          now = cleared d.done last (i - k) i place (get_or t₀ i 0) (drop (i + 1) t₀) t now_next
              ∙ (let q : suc (i - k) ≡ i + 1 - k = omega (arith, d.order) in ap (λ n. moved d.done last n (drop (i + 1) t₀)) q);
          whole =
              whole_next
              ∙ ap (λ r. d.done ++ (last ∷ r))
              (after_same last (get_or t i 0) (drop (i + 1) t₀) (sym e) ∙ ap (λ y. dedup_after y (drop (i + 1) t₀)) e);
        }

    pub other_kept : (get_or t i 0 ≡ last → ⊥) → Deduping t₀ y j (set (set t i 0) k (get_or t i 0)) (get_or t i 0) (k + 1) (i + 1)
    other_kept n =
        record {
          done = d.done ++ (last ∷ []);
          size = simp length-append (omega (arith, d.size));
          order = omega (arith, d.order);
          within = omega (arith, more);
          long = simp length-set d.long;
          now =
              added d.done last (i - k) i place (get_or t₀ i 0) (drop (i + 1) t₀) t now_next (get_or t i 0) k (i + 1 - (k + 1))
              (omega (arith, d.size)) (omega (arith, d.order));
          whole =
              whole_next
              ∙ ap (λ r. d.done ++ (last ∷ r)) (after_other last (get_or t i 0) (drop (i + 1) t₀) (λ q. n (sym q)))
              ∙ sym (append_assoc d.done (last ∷ []) (get_or t i 0 ∷ dedup_after (get_or t i 0) (drop (i + 1) t₀)));
        }

  pub all_passed : length t ≤ i → (k ≡ length (kept_from t₀ y j)) × (t ≡ padded (length t₀) (kept_from t₀ y j))
  unfolding dedup_after
  all_passed h = (
    sym (ap length all ∙ length-append d.done (last ∷ []) ∙ d.size),
    finished d.done last (i - k) t (d.now ∙ rw (drop_of_length-le t₀ {i = i} e)) (kept_from t₀ y j) all (length t₀)
        (omega (arith, d.size, d.order, d.within)),
  )
    where
      e : length t₀ ≤ i
      e = omega (arith, d.long)

      all : kept_from t₀ y j ≡ d.done ++ (last ∷ [])
      all = d.whole ∙ rw (drop_of_length-le t₀ {i = i} e)
