-- The loop of `coalesce_entries`: the entries scanned so far stand coalesced at the front, zeros behind them up to the next entry.
use mathlib.Core.Path.{◌≡◌, refl, sym, ap, ap₂, ◌∙◌}
use mathlib.Core.List.{List, [], ◌∷◌, ◌++◌, map, append_assoc}
use mathlib.Core.Bool.{Bool, true, false, cond, ◌&&◌}
use Rattle.std.proofs.Common.{Some, None}
use Prim.Native.Nat.{ℕ, ◌+◌, ◌-◌, ◌≤◌, ◌<◌}
use native.Mathlib.Omega.{arith}
use lib.ListN.{length, get_or, set, drop, length-append, length-map, length-set, drop_of_length-le}
use Rattle.aspath_normal.proofs.Moves.{moved, uncons, at_next, replaced, added, finished}
use lib.Dec.{eqb}
use Rattle.aspath.specs.Lists.{fold_map, sum}
use Rattle.aspath_normal.specs.Normal.{is_sequence, scan_from, scan}
use Rattle.aspath_normal.specs.Layout.{padded}
use Rattle.aspath_normal.specs.declared.Entry.{Entry}
use Rattle.aspath_normal.specs.Entries.{entry_of, entries, merge_entries, coalesced_entries, Coalesced}
use Rattle.aspath_normal.proofs.Scan.{scan_one, scan_two}

-- `last` is the entry scanned last
pub record Merging (ks₀ ls₀ ks ls : List ℕ) (last : Entry) (end i : ℕ) : Type 0 where
  pub done : List Entry
  pub size : length done ≡ end
  pub order : end < i
  pub within : i ≤ length ks₀
  pub same : length ks₀ ≡ length ls₀
  pub long_kinds : length ks ≡ length ks₀
  pub long_lengths : length ls ≡ length ks₀
  pub kinds : ks ≡ moved (map (λ x. x.kind) done) last.kind (i - (end + 1)) (drop i ks₀)
  pub lengths : ls ≡ moved (map (λ x. x.length) done) last.length (i - (end + 1)) (drop i ls₀)
  pub small : last.length + sum (drop i ls₀) ≤ 16384
  pub whole : coalesced_entries ks₀ ls₀ ≡ done ++ scan_from merge_entries last (entries (drop i ks₀) (drop i ls₀))

map_snoc : (f : Entry → ℕ) (d : List Entry) (x : Entry) → map f (d ++ (x ∷ [])) ≡ map f d ++ (f x ∷ [])
map_snoc f [] x = refl
map_snoc f (y ∷ d) x = ap (λ l. f y ∷ l) (map_snoc f d x)

-- one of the two lists, l₀ at first and l now; f is what it holds of an entry
module _ (f : Entry → ℕ) (l₀ l : List ℕ) (done : List Entry) (last : Entry) (end i : ℕ) (size : length done ≡ end) (order : end < i)
    (s : l ≡ moved (map f done) (f last) (i - (end + 1)) (drop i l₀)) where
  module _ (h : i < length l₀) where
    place : i ≡ length (map f done) + 1 + (i - (end + 1))
    place = simp length-map (omega arith)

    s_next : l ≡ moved (map f done) (f last) (i - (end + 1)) (get_or l₀ i 0 ∷ drop (i + 1) l₀)
    s_next = s ∙ rw (uncons l₀ i h)

    reads_next : get_or l i 0 ≡ get_or l₀ i 0
    reads_next = at_next (map f done) (f last) (i - (end + 1)) i place (get_or l₀ i 0) (drop (i + 1) l₀) l s_next

    writes_last : (v : ℕ) → set (set l i 0) end v ≡ moved (map f done) v (i + 1 - (end + 1)) (drop (i + 1) l₀)
    writes_last v =
        replaced (map f done) (f last) (i - (end + 1)) i place (get_or l₀ i 0) (drop (i + 1) l₀) l s_next v end (i + 1 - (end + 1))
        (simp length-map (omega arith)) (omega arith)

    writes_next : (v : ℕ) → set (set l i 0) (end + 1) v ≡ moved (map f (done ++ (last ∷ []))) v (i + 1 - (end + 1 + 1)) (drop (i + 1) l₀)
    writes_next v =
        rw (map_snoc f done last)
        (added (map f done) (f last) (i - (end + 1)) i place (get_or l₀ i 0) (drop (i + 1) l₀) l s_next v (end + 1) (i + 1 - (end + 1 + 1))
        (simp length-map (omega arith)) (omega arith))

  padded_out : i ≤ length l₀ → length l₀ ≤ i → (q : List Entry) → q ≡ done ++ (last ∷ []) → l ≡ padded (length l₀) (map f q)
  padded_out g h q e =
      finished (map f done) (f last) (i - (end + 1)) l (s ∙ rw (drop_of_length-le l₀ {i = i} h)) (map f q) (ap (map f) e ∙ map_snoc f done last) (length l₀)
      (simp length-map (omega arith))

-- two entries that become one have no more numbers together than before
merged_length : (x y z : Entry) → merge_entries x y ≡ Some z → z.length ≤ x.length + y.length
unfolding merge_entries
merged_length x y z e =
    go (is_sequence x.kind && eqb x.kind y.kind) (is_sequence x.kind && eqb x.length 0) (is_sequence y.kind && eqb y.length 0) e
  where
    go : (p q r : Bool) → cond p (Some (entry_of x.kind (x.length + y.length))) (cond q (Some y) (cond r (Some x) None)) ≡ Some z
        → z.length ≤ x.length + y.length
    go true q r e = let f : entry_of x.kind (x.length + y.length) ≡ z = cc in omega (arith, ap (λ (t : Entry). t.length) f)
    go false true r e = let f : y ≡ z = cc in omega (arith, ap (λ (t : Entry). t.length) f)
    go false false true e = let f : x ≡ z = cc in omega (arith, ap (λ (t : Entry). t.length) f)
    go false false false e = let z : ◌≡◌ {A = ℕ} 0 1 = cc in absurd (omega arith)

module _ (ks₀ ls₀ ks ls : List ℕ) (last : Entry) (end i : ℕ) (m : Merging ks₀ ls₀ ks ls last end i) where
  module _ (h : i < length ks) where
    more : i < length ks₀
    more = omega (arith, m.long_kinds)

    more_lengths : i < length ls₀
    more_lengths = omega (arith, more, m.same)

    -- the next entry, as it is read and as it was
    abbrev next : Entry
    next = entry_of (get_or ks i 0) (get_or ls i 0)

    next_is : next ≡ entry_of (get_or ks₀ i 0) (get_or ls₀ i 0)
    next_is =
        ap₂ entry_of
        (reads_next (λ x. x.kind) ks₀ ks m.done last end i m.size m.order m.kinds more)
        (reads_next (λ x. x.length) ls₀ ls m.done last end i m.size m.order m.lengths more_lengths)

    left : sum (drop i ls₀) ≡ get_or ls i 0 + sum (drop (i + 1) ls₀)
    unfolding fold_map
    left = rw (uncons ls₀ i more_lengths, ← ap (λ (e : Entry). e.length) next_is)

    scanned : coalesced_entries ks₀ ls₀ ≡ m.done ++ scan_from merge_entries last (next ∷ entries (drop (i + 1) ks₀) (drop (i + 1) ls₀))
    unfolding entries
    scanned =
        m.whole
        ∙ rw (uncons ks₀ i more, uncons ls₀ i more_lengths)
        (ap (λ x. m.done ++ scan_from merge_entries last (x ∷ entries (drop (i + 1) ks₀) (drop (i + 1) ls₀))) (sym next_is))

    pub no_overflow : last.length + get_or ls i 0 ≤ 16384
    no_overflow = omega (arith, m.small, left)

    pub joined : (z : Entry) → Some z ≡ merge_entries last next
        → Merging ks₀ ls₀ (set (set ks i 0) end z.kind) (set (set ls i 0) end z.length) z end (i + 1)
    joined z f =
        record {
          done = m.done;
          size = m.size;
          order = omega (arith, m.order);
          within = omega (arith, more);
          same = m.same;
          long_kinds = simp length-set m.long_kinds;
          long_lengths = simp length-set m.long_lengths;
          kinds = writes_last (λ x. x.kind) ks₀ ks m.done last end i m.size m.order m.kinds more z.kind;
          lengths = writes_last (λ x. x.length) ls₀ ls m.done last end i m.size m.order m.lengths more_lengths z.length;
          small = omega (arith, m.small, left, merged_length last next z (sym f));
          whole = scanned ∙ ap (λ l. m.done ++ l) (scan_one merge_entries last next (entries (drop (i + 1) ks₀) (drop (i + 1) ls₀)) z (sym f));
        }

    pub apart : None ≡ merge_entries last next
        → Merging ks₀ ls₀ (set (set ks i 0) (end + 1) (get_or ks i 0)) (set (set ls i 0) (end + 1) (get_or ls i 0)) next (end + 1) (i + 1)
    apart f =
        record {
          done = m.done ++ (last ∷ []);
          size = simp length-append (omega (arith, m.size));
          order = omega (arith, m.order);
          within = omega (arith, more);
          same = m.same;
          long_kinds = simp length-set m.long_kinds;
          long_lengths = simp length-set m.long_lengths;
          kinds = writes_next (λ x. x.kind) ks₀ ks m.done last end i m.size m.order m.kinds more (get_or ks i 0);
          lengths = writes_next (λ x. x.length) ls₀ ls m.done last end i m.size m.order m.lengths more_lengths (get_or ls i 0);
          small = omega (arith, m.small, left);
          whole =
              scanned
              ∙ ap (λ l. m.done ++ l) (scan_two merge_entries last next (entries (drop (i + 1) ks₀) (drop (i + 1) ls₀)) (sym f))
              ∙ sym (append_assoc m.done (last ∷ []) (scan_from merge_entries next (entries (drop (i + 1) ks₀) (drop (i + 1) ls₀))));
        }

  -- at the end
  pub coalesced : length ks ≤ i → Coalesced ks₀ ls₀ ks ls (end + 1)
  unfolding scan_from entries
  coalesced h =
      record {
        count = rw all (simp length-append (omega (arith, m.size)));
        kinds = padded_out (λ x. x.kind) ks₀ ks m.done last end i m.size m.order m.kinds m.within e (coalesced_entries ks₀ ls₀) all;
        lengths = padded_out (λ x. x.length) ls₀ ls m.done last end i m.size m.order m.lengths (omega (arith, m.within, m.same)) (omega (arith, e, m.same)) (coalesced_entries ks₀ ls₀) all;
      }
    where
      e : length ks₀ ≤ i
      e = omega (arith, m.long_kinds)

      all : coalesced_entries ks₀ ls₀ ≡ m.done ++ (last ∷ [])
      all = m.whole ∙ rw (drop_of_length-le ks₀ {i = i} e)

pub first_entry : (ks ls : List ℕ) → length ks ≡ length ls → sum ls ≤ 16384 → (length ks ≡ 0 → ⊥)
    → Merging ks ls ks ls (entry_of (get_or ks 0 0) (get_or ls 0 0)) 0 1
unfolding scan entries fold_map
first_entry [] ls e s h = absurd (h refl)
first_entry (k ∷ ks) [] e s h = absurd (omega arith)
first_entry (k ∷ ks) (l ∷ ls) e s h =
    record {
      done = [];
      size = refl;
      order = omega arith;
      within = omega arith;
      same = e;
      long_kinds = refl;
      long_lengths = sym e;
      kinds = refl;
      lengths = refl;
      small = s;
      whole = refl;
    }

pub no_entries : (ks ls : List ℕ) → length ks ≡ length ls → length ks ≡ 0 → Coalesced ks ls ks ls 0
unfolding scan entries
no_entries [] [] e h = record { count = refl; kinds = refl; lengths = refl }
no_entries [] (l ∷ ls) e h = absurd (omega arith)
no_entries (k ∷ ks) ls e h = absurd (omega arith)
