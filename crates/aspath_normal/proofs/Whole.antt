-- The calls of `normalise`, one after the other, and the segments that the lists hold after each.
use mathlib.Core.Path.{◌≡◌, sym, ap, ap₂, ◌∙◌}
use mathlib.Core.List.{List, ◌++◌, map, append_assoc}
use Prim.Native.Nat.{ℕ, ◌+◌, ◌-◌, ◌≤◌}
use native.Mathlib.Omega.{arith}
use lib.ListN.{length, take, drop, replicate, length-append, length-map, replicate-append-replicate}
use lib.Seq.{take_at, drop_at}
use Rattle.aspath.specs.Lists.{sum}
use Rattle.aspath.specs.Record.{Segment, cut, kinds_of, lengths_of, numbers_of}
use Rattle.aspath.proofs.Record.{cut_kinds, cut_lengths, sum_flat}
use Rattle.aspath_normal.specs.Normal.{coalesce, sort_set, dedup_numbers, single_kind, single_set}
use Rattle.aspath_normal.specs.Layout.{padded}
use Rattle.aspath_normal.specs.Entries.{entry, entries, coalesced_entries, Coalesced}
use Rattle.aspath_normal.specs.Parts.{Deduped}
use Rattle.aspath_normal.specs.Whole.{Fit, NormalIn}
use Rattle.aspath_normal.proofs.Calls.{coalesced_entries_lem, coalesce_numbers}
use Rattle.aspath_normal.proofs.Entries.{entry_kinds, entry_lengths}
use Rattle.aspath_normal.proofs.Steps.{sorted_kinds, sorted_lengths, deduped_kinds, single_kinds, single_lengths, single_numbers, deduped_count, deduped_lengths, deduped_numbers, steps_are}

-- zeros behind zeros
padded_twice : (a : List ℕ) (m n : ℕ) → length a ≤ m → m ≤ n → padded m a ++ replicate (n - m) 0 ≡ padded n a
padded_twice a m n h k =
    append_assoc a (replicate (m - length a) 0) (replicate (n - m) 0)
    ∙ ap (λ l. a ++ l)
    (replicate-append-replicate (m - length a) (n - m) 0
    ∙ (let e : m - length a + (n - m) ≡ n - length a = omega arith in ap (λ j. replicate j 0) e))

module _ (ks ls ns : List ℕ) (fit : Fit ks ls ns) where
  abbrev p : List Segment
  p = cut ks ls ns

  abbrev p₁ : List Segment
  p₁ = map sort_set p

  abbrev p₂ : List Segment
  p₂ = map dedup_numbers p₁

  abbrev p₃ : List Segment
  p₃ = map single_set p₂

  abbrev p₄ : List Segment
  p₄ = coalesce p₃

  kinds₀ : ks ≡ kinds_of p
  kinds₀ = sym (cut_kinds ks ls ns fit.same)

  lengths₁ : ls ≡ lengths_of p₁
  lengths₁ = sym (sorted_lengths p ∙ cut_lengths ks ls ns fit.same (omega (arith, fit.sums)))

  module _ (ns₁ : List ℕ) (e₁ : ns₁ ≡ numbers_of p₁) where
    long₁ : length ns₁ ≡ length ns
    long₁ = ap length e₁ ∙ sym (sum_flat p₁) ∙ ap sum (sym lengths₁) ∙ fit.sums

    pub fit₁ : (sum ls ≡ length ns₁) × (length ns₁ ≤ 16384)
    fit₁ = (fit.sums ∙ sym long₁, omega (arith, long₁, fit.few))

    module _ (ls₂ ns₂ : List ℕ) (c₂ : ℕ) (d₂ : Deduped ls ns₁ ls₂ ns₂ c₂) (k₂ : length ns₂ ≡ length ns₁) where
      count₂ : c₂ ≡ length (numbers_of p₂)
      count₂ = deduped_count p₁ ls ns₁ ls₂ ns₂ c₂ lengths₁ e₁ d₂

      lengths₂ : ls₂ ≡ lengths_of p₂
      lengths₂ = deduped_lengths p₁ ls ns₁ ls₂ ns₂ c₂ lengths₁ e₁ d₂

      numbers₂ : ns₂ ≡ padded (length ns₁) (numbers_of p₂)
      numbers₂ = deduped_numbers p₁ ls ns₁ ls₂ ns₂ c₂ lengths₁ e₁ d₂

      few₂ : length (numbers_of p₂) ≤ length ns₁
      few₂ = omega (arith, k₂, simp length-append at (ap length numbers₂))

      kinds₂ : ks ≡ kinds_of p₂
      kinds₂ = kinds₀ ∙ sym (deduped_kinds p₁ ∙ sorted_kinds p)

      pub same₂ : length ks ≡ length ls₂
      same₂ = ap length kinds₂ ∙ length-map p₂ (λ x. x.kind) ∙ sym (ap length lengths₂ ∙ length-map p₂ (λ x. length x.numbers))

      module _ (ks₃ : List ℕ) (e₃ : ks₃ ≡ map (λ x. single_kind x.kind x.length) (entries ks ls₂)) where
        kinds₃ : ks₃ ≡ kinds_of p₃
        kinds₃ = e₃ ∙ ap₂ (λ a b. map (λ x. single_kind x.kind x.length) (entries a b)) kinds₂ lengths₂ ∙ single_kinds p₂

        lengths₃ : ls₂ ≡ lengths_of p₃
        lengths₃ = lengths₂ ∙ sym (single_lengths p₂)

        pub fit₃ : (length ks₃ ≡ length ls₂) × (sum ls₂ ≤ 16384)
        fit₃ = (
          ap length kinds₃ ∙ length-map p₃ (λ x. x.kind) ∙ sym (ap length lengths₃ ∙ length-map p₃ (λ x. length x.numbers)),
          omega (arith, ap sum lengths₂, sum_flat p₂, few₂, fit₁.1),
        )

        module _ (ks₄ ls₄ : List ℕ) (s₄ : ℕ) (d₄ : Coalesced ks₃ ls₂ ks₄ ls₄ s₄) (k₄ : length ls₄ ≡ length ls₂) where
          entries₄ : coalesced_entries ks₃ ls₂ ≡ map entry p₄
          entries₄ = coalesced_entries_lem p₃ ks₃ ls₂ kinds₃ lengths₃

          count₄ : s₄ ≡ length p₄
          count₄ = d₄.count ∙ ap length entries₄ ∙ length-map p₄ entry

          kinds₄ : ks₄ ≡ padded (length ks₃) (kinds_of p₄)
          kinds₄ = d₄.kinds ∙ ap (λ l. padded (length ks₃) (map (λ x. x.kind) l)) entries₄ ∙ ap (padded (length ks₃)) (entry_kinds p₄)

          lengths₄ : ls₄ ≡ padded (length ls₂) (lengths_of p₄)
          lengths₄ = d₄.lengths ∙ ap (λ l. padded (length ls₂) (map (λ x. x.length) l)) entries₄ ∙ ap (padded (length ls₂)) (entry_lengths p₄)

          size₄ : length (lengths_of p₄) ≡ s₄
          size₄ = length-map p₄ (λ x. length x.numbers) ∙ sym count₄

          pub segments_there : s₄ ≤ length ls₄
          segments_there = omega (arith, size₄, simp length-append at (ap length lengths₄))

          pub numbers_there : c₂ ≤ length ns₂
          numbers_there = omega (arith, count₂, few₂, k₂)

          lengths_taken : take s₄ ls₄ ≡ lengths_of p₄
          lengths_taken = ap (take s₄) lengths₄ ∙ take_at (lengths_of p₄) (replicate (length ls₂ - length (lengths_of p₄)) 0) s₄ size₄

          numbers_taken : take c₂ ns₂ ≡ numbers_of p₄
          numbers_taken =
              ap (take c₂) numbers₂ ∙ take_at (numbers_of p₂) (replicate (length ns₁ - length (numbers_of p₂)) 0) c₂ (sym count₂)
              ∙ sym (coalesce_numbers p₃ ∙ single_numbers p₂)

          pub fit₄ : (sum (take s₄ ls₄) ≡ length (take c₂ ns₂)) × (length (take c₂ ns₂) ≤ 16384)
          fit₄ = (
            ap sum lengths_taken ∙ sum_flat p₄ ∙ ap length (sym numbers_taken),
            omega (arith, ap length (numbers_taken ∙ coalesce_numbers p₃ ∙ single_numbers p₂), few₂, fit₁.1),
          )

          module _ (ls₅ ns₅ : List ℕ) (n₅ : ℕ) (d₅ : Deduped (take s₄ ls₄) (take c₂ ns₂) ls₅ ns₅ n₅) (k₅ : length ns₅ ≡ length (take c₂ ns₂)) where
            abbrev p₅ : List Segment
            p₅ = map dedup_numbers p₄

            lengths₅ : ls₅ ≡ lengths_of p₅
            lengths₅ = deduped_lengths p₄ (take s₄ ls₄) (take c₂ ns₂) ls₅ ns₅ n₅ lengths_taken numbers_taken d₅

            numbers₅ : ns₅ ≡ padded (length (take c₂ ns₂)) (numbers_of p₅)
            numbers₅ = deduped_numbers p₄ (take s₄ ls₄) (take c₂ ns₂) ls₅ ns₅ n₅ lengths_taken numbers_taken d₅

            size₅ : length (lengths_of p₅) ≡ length (lengths_of p₄)
            size₅ = length-map p₅ (λ x. length x.numbers) ∙ length-map p₄ dedup_numbers ∙ sym (length-map p₄ (λ x. length x.numbers))

            lengths_now : ls₅ ++ drop s₄ ls₄ ≡ padded (length ls) (lengths_of p₅)
            lengths_now =
                ap₂ (λ a b. a ++ b) lengths₅
                (ap (drop s₄) lengths₄ ∙ drop_at (lengths_of p₄) (replicate (length ls₂ - length (lengths_of p₄)) 0) s₄ size₄)
                ∙ (let e : length ls₂ - length (lengths_of p₄) ≡ length ls - length (lengths_of p₅) = omega (arith, size₅, same₂, fit.same) in ap (λ j. lengths_of p₅ ++ replicate j 0) e)

            numbers_left : length (take c₂ ns₂) ≡ length (numbers_of p₂)
            numbers_left = ap length (numbers_taken ∙ coalesce_numbers p₃ ∙ single_numbers p₂)

            numbers_now : ns₅ ++ drop c₂ ns₂ ≡ padded (length ns) (numbers_of p₅)
            numbers_now =
                ap₂ (λ a b. a ++ b) numbers₅
                (ap (drop c₂) numbers₂ ∙ drop_at (numbers_of p₂) (replicate (length ns₁ - length (numbers_of p₂)) 0) c₂ (sym count₂)
                ∙ (let e : length ns₁ - length (numbers_of p₂) ≡ length ns - length (take c₂ ns₂) = omega (arith, numbers_left, long₁) in ap (λ j. replicate j 0) e))
                ∙ padded_twice (numbers_of p₅) (length (take c₂ ns₂)) (length ns) (omega (arith, k₅, simp length-append at (ap length numbers₅)))
                (omega (arith, numbers_left, few₂, long₁))

            pub normal_in : NormalIn ks ls ns ks₄ (ls₅ ++ drop s₄ ls₄) (ns₅ ++ drop c₂ ns₂) s₄ n₅
            normal_in =
                record {
                  segments = count₄ ∙ sym (length-map p₄ dedup_numbers) ∙ ap length (steps_are p);
                  count =
                      deduped_count p₄ (take s₄ ls₄) (take c₂ ns₂) ls₅ ns₅ n₅ lengths_taken numbers_taken d₅
                      ∙ ap (λ q. length (numbers_of q)) (steps_are p);
                  kinds = kinds₄ ∙ ap₂ padded (fit₃.0 ∙ sym same₂) (sym (deduped_kinds p₄) ∙ ap kinds_of (steps_are p));
                  lengths = lengths_now ∙ ap (λ q. padded (length ls) (lengths_of q)) (steps_are p);
                  numbers = numbers_now ∙ ap (λ q. padded (length ns) (numbers_of q)) (steps_are p);
                }
