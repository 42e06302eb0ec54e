-- The loop of `dedup_segments`: the numbers kept of the segments so far stand at the front, zeros behind them up to the next segment's.
use mathlib.Core.Path.{◌≡◌, refl, sym, ap, ap₂, ◌∙◌}
use mathlib.Core.List.{List, [], ◌∷◌, ◌++◌, map, append_assoc, append-nil}
use Prim.Native.Nat.{ℕ, ◌+◌, ◌-◌, ◌≤◌, ◌<◌}
use native.Mathlib.Omega.{arith}
use lib.ListN.{length, get_or, set, take, drop, replicate, length-append, length-map, length-set, length-drop, length-replicate, drop_of_length-le}
use lib.Seq.{set_at, get_or_at, take_at, drop_at, take-append-add, drop-append-add, drop-drop, length-take-le}
use Rattle.sort.specs.Dedup.{dedup}
use Rattle.sort.proofs.Dedup.{dedup_length}
use Rattle.aspath.specs.Lists.{fold_map, sum}
use Rattle.aspath_normal.specs.Layout.{padded}
use Rattle.aspath_normal.specs.Parts.{parts, concat, Deduped}
use Rattle.aspath_normal.proofs.Moves.{uncons}

pub record Compacting (ls₀ ns₀ ls ns : List ℕ) (i read write : ℕ) : Type 0 where
  pub done : List (List ℕ)
  pub size : length done ≡ i
  pub within : i ≤ length ls₀
  pub long_lengths : length ls ≡ length ls₀
  pub long_numbers : length ns ≡ length ns₀
  pub written : length (concat done) ≡ write
  pub order : write ≤ read
  pub left : read + sum (drop i ls₀) ≡ length ns₀
  pub lengths : ls ≡ map length done ++ drop i ls₀
  pub numbers : ns ≡ concat done ++ (replicate (read - write) 0 ++ drop read ns₀)
  pub whole : map dedup (parts ls₀ ns₀) ≡ done ++ map dedup (parts (drop i ls₀) (drop read ns₀))

pub none_compacted : (ls ns : List ℕ) → sum ls ≡ length ns → Compacting ls ns ls ns 0 0 0
unfolding fold_map
none_compacted ls ns e =
    record {
      done = [];
      size = refl;
      within = omega arith;
      long_lengths = refl;
      long_numbers = refl;
      written = refl;
      order = omega arith;
      left = omega arith;
      lengths = refl;
      numbers = refl;
      whole = refl;
    }

concat_snoc : (d : List (List ℕ)) (x : List ℕ) → concat (d ++ (x ∷ [])) ≡ concat d ++ x
unfolding fold_map
concat_snoc [] x = append-nil x
concat_snoc (y ∷ d) x = ap (λ l. y ++ l) (concat_snoc d x) ∙ sym (append_assoc y (concat d) x)

map_snoc : (d : List (List ℕ)) (x : List ℕ) → map length (d ++ (x ∷ [])) ≡ map length d ++ (length x ∷ [])
map_snoc [] x = refl
map_snoc (y ∷ d) x = ap (λ l. length y ∷ l) (map_snoc d x)

module _ (ls₀ ns₀ ls ns : List ℕ) (i read write : ℕ) (c : Compacting ls₀ ns₀ ls ns i read write) where
  module _ (h : i < length ls) where
    more : i < length ls₀
    more = omega (arith, c.long_lengths)

    lengths_next : ls ≡ map length c.done ++ (get_or ls₀ i 0 ∷ drop (i + 1) ls₀)
    lengths_next = c.lengths ∙ ap (λ l. map length c.done ++ l) (uncons ls₀ i more)

    before : length (map length c.done) ≡ i
    before = length-map c.done length ∙ c.size

    next : get_or ls i 0 ≡ get_or ls₀ i 0
    next = rw lengths_next (get_or_at (map length c.done) (get_or ls₀ i 0) (drop (i + 1) ls₀) 0 i before)

    left_now : read + get_or ls i 0 + sum (drop (i + 1) ls₀) ≡ length ns₀
    unfolding fold_map
    left_now = omega (arith, c.left, ap sum (uncons ls₀ i more), next)

    -- the end of the segment is within the list, and not before where it goes
    pub segment_end : read + get_or ls i 0 ≤ length ns
    segment_end = omega (arith, left_now, c.long_numbers)

    pub segment_order : write ≤ read + get_or ls i 0
    segment_order = omega (arith, c.order)

    -- the segment's numbers
    abbrev segment : List ℕ
    segment = take (get_or ls i 0) (drop read ns₀)

    abbrev lent : List ℕ
    lent = take (read + get_or ls i 0 - write) (drop write ns)

    from_write : drop write ns ≡ replicate (read - write) 0 ++ drop read ns₀
    from_write = rw c.numbers (drop_at (concat c.done) (replicate (read - write) 0 ++ drop read ns₀) write c.written)

    width : read + get_or ls i 0 - write ≡ length (replicate {A = ℕ} (read - write) 0) + get_or ls i 0
    width = rw length-replicate (omega (arith, c.order))

    lent_is : lent ≡ replicate (read - write) 0 ++ segment
    lent_is = rw (from_write, width) (take-append-add (replicate (read - write) 0) (drop read ns₀) (get_or ls i 0))

    behind_is : drop (read + get_or ls i 0 - write) (drop write ns) ≡ drop (read + get_or ls i 0) ns₀
    behind_is =
        rw (from_write, width) (drop-append-add (replicate (read - write) 0) (drop read ns₀) (get_or ls i 0))
        ∙ drop-drop (get_or ls i 0) read ns₀

    pub gap_of_zeros : (read - write ≤ length lent) × (take (read - write) lent ≡ replicate (read - write) 0)
    gap_of_zeros =
        rw lent_is (
          simp (length-append, length-replicate) (omega arith),
          take_at (replicate (read - write) 0) segment (read - write) (length-replicate (read - write) 0),
        )

    segment_is : drop (read - write) lent ≡ segment
    segment_is = rw lent_is (drop_at (replicate (read - write) 0) segment (read - write) (length-replicate (read - write) 0))

    segment_length : length segment ≡ get_or ls i 0
    segment_length = length-take-le (get_or ls i 0) (drop read ns₀) (simp length-drop (omega (arith, left_now)))

    module _ (m : ℕ) (t : List ℕ) (e : (m ≡ length (dedup (drop (read - write) lent))) × (t ≡ padded (length lent) (dedup (drop (read - write) lent)))) where
      count_is : m ≡ length (dedup segment)
      count_is = e.0 ∙ ap (λ l. length (dedup l)) segment_is

      pub no_more : m ≤ get_or ls i 0
      no_more = omega (arith, count_is, dedup_length segment, segment_length)

      lengths_now : set ls i m ≡ map length (c.done ++ (dedup segment ∷ [])) ++ drop (i + 1) ls₀
      lengths_now =
          ap (λ l. set l i m) lengths_next
          ∙ set_at (map length c.done) (get_or ls₀ i 0) (drop (i + 1) ls₀) m i before
          ∙ ap (λ k. map length c.done ++ (k ∷ drop (i + 1) ls₀)) count_is
          ∙ sym
          (ap (λ l. l ++ drop (i + 1) ls₀) (map_snoc c.done (dedup segment))
          ∙ append_assoc (map length c.done) (length (dedup segment) ∷ []) (drop (i + 1) ls₀))

      room : length lent - length (dedup segment) ≡ read + get_or ls i 0 - (write + m)
      room = omega (arith, simp (length-append, length-replicate) at (ap length lent_is), segment_length, count_is, c.order)

      part_now : t ≡ dedup segment ++ replicate (read + get_or ls i 0 - (write + m)) 0
      part_now = e.1 ∙ ap (λ l. padded (length lent) (dedup l)) segment_is ∙ ap (λ k. dedup segment ++ replicate k 0) room

      front : take write ns ≡ concat c.done
      front = rw c.numbers (take_at (concat c.done) (replicate (read - write) 0 ++ drop read ns₀) write c.written)

      -- zeros, then what is left
      abbrev tail : List ℕ
      tail = replicate (read + get_or ls i 0 - (write + m)) 0 ++ drop (read + get_or ls i 0) ns₀

      tail_length : length tail ≡ read + get_or ls i 0 - (write + m) + (length ns₀ - (read + get_or ls i 0))
      tail_length = simp (length-append, length-replicate, length-drop)

      numbers_now : take write ns ++ (t ++ drop (read + get_or ls i 0 - write) (drop write ns)) ≡ concat (c.done ++ (dedup segment ∷ [])) ++ tail
      numbers_now =
          ap₂ (λ a b. a ++ b) front (ap₂ (λ a b. a ++ b) part_now behind_is)
          ∙ ap (λ r. concat c.done ++ r)
          (append_assoc (dedup segment) (replicate (read + get_or ls i 0 - (write + m)) 0) (drop (read + get_or ls i 0) ns₀))
          ∙ sym (ap (λ l. l ++ tail) (concat_snoc c.done (dedup segment)) ∙ append_assoc (concat c.done) (dedup segment) tail)

      written_now : length (concat (c.done ++ (dedup segment ∷ []))) ≡ write + m
      written_now =
          ap length (concat_snoc c.done (dedup segment)) ∙ length-append (concat c.done) (dedup segment)
          ∙ ap₂ (λ a b. a + b) c.written (sym count_is)

      whole_now : map dedup (parts (drop i ls₀) (drop read ns₀)) ≡ dedup segment ∷ map dedup (parts (drop (i + 1) ls₀) (drop (read + get_or ls i 0) ns₀))
      unfolding parts
      whole_now = rw (uncons ls₀ i more, next, drop-drop (get_or ls₀ i 0) read ns₀)

      pub compacted : Compacting ls₀ ns₀ (set ls i m) (take write ns ++ (t ++ drop (read + get_or ls i 0 - write) (drop write ns))) (i + 1) (read + get_or ls i 0) (write + m)
      compacted =
          record {
            done = c.done ++ (dedup segment ∷ []);
            size = simp length-append (omega (arith, c.size));
            within = omega (arith, more);
            long_lengths = simp length-set c.long_lengths;
            long_numbers = ap length numbers_now ∙ length-append (concat (c.done ++ (dedup segment ∷ []))) tail ∙ omega (arith, tail_length, written_now, left_now, c.order, no_more);
            written = written_now;
            order = omega (arith, c.order, no_more);
            left = left_now;
            lengths = lengths_now;
            numbers = numbers_now;
            whole =
                c.whole ∙ ap (λ l. c.done ++ l) whole_now
                ∙ sym (append_assoc c.done (dedup segment ∷ []) (map dedup (parts (drop (i + 1) ls₀) (drop (read + get_or ls i 0) ns₀))));
          }

  module _ (h : length ls ≤ i) where
    none_left : drop i ls₀ ≡ []
    none_left = drop_of_length-le ls₀ {i = i} (omega (arith, c.long_lengths))

    all : map dedup (parts ls₀ ns₀) ≡ c.done
    unfolding parts
    all = c.whole ∙ rw none_left (append-nil c.done)

    at_end_lem : read ≡ length ns₀
    unfolding fold_map
    at_end_lem = omega (arith, c.left, ap sum none_left)

    pub all_compacted : Deduped ls₀ ns₀ ls ns write
    all_compacted =
        record {
          count = sym (ap (λ d. length (concat d)) all ∙ c.written);
          lengths = c.lengths ∙ rw (none_left, append-nil (map length c.done), all);
          numbers =
              c.numbers
              ∙ rw (drop_of_length-le ns₀ {i = read} (omega (arith, at_end_lem)), append-nil (replicate {A = ℕ} (read - write) 0), all, c.written, at_end_lem);
        }
