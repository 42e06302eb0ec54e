-- From the test of a record to the answer of a call.
use mathlib.Core.Path.{◌≡◌, sym, ap, ap₂, ◌∙◌}
use mathlib.Core.List.{List, ◌++◌, map}
use mathlib.Core.Bool.{Bool, true, false}
use Rattle.std.proofs.Common.{Some, None, Ok, Result, cond, refl}
use Rattle.std.specs.Prelude.{IsErrAnd}
use Rattle.std.proofs.lemmas.Result.{err_from_is_err_and}
use Prim.Native.Nat.{ℕ, ◌≤◌}
use native.Mathlib.Omega.{arith}
use lib.ListN.{length, take, drop, length-map}
use lib.Seq.{length-take-le}
use Rattle.aspath.specs.Lists.{sum}
use Rattle.aspath.specs.Record.{Segment, spoilt, cut, segments_of, path, kinds_of, lengths_of, numbers_of}
use Rattle.aspath.proofs.Record.{path_kinds, path_lengths, path_numbers, unspoilt_path, unspoilt_record}
use Rattle.aspath.specs.declared.PathRecord.{PathRecord}
use Rattle.aspath.specs.Segments.{path_of}
use Rattle.aspath_normal.specs.declared.LentPath.{LentPath}
use Rattle.aspath_normal.specs.Lent.{path_lent, Reads}
use Rattle.aspath_normal.specs.Normal.{coalesce, dedup_coalesce}
use Rattle.aspath_normal.specs.Layout.{after, counts}
use Rattle.aspath_normal.specs.Entries.{entry, coalesced_entries, Coalesced}
use Rattle.aspath_normal.specs.Whole.{Fit, NormalIn}
use Rattle.aspath.specs.declared.Spoilt.{Spoilt}
use Rattle.aspath_normal.specs.declared.Counts.{Counts}
use Rattle.aspath_normal.proofs.Entries.{entry_kinds, entry_lengths}
use Rattle.aspath_normal.proofs.Calls.{coalesce_numbers, coalesced_entries_lem}

abbrev counted : ℕ → ℕ → Counts
counted s n = record { segments = s; numbers = n }

-- a record and the lent one that it reads stand for the same path
pub read_path : (r : PathRecord) (l : LentPath) → Reads l r → path_of r ≡ path_lent l
read_path r l e = rw (e.kinds, e.lengths, e.numbers, e.segments, e.count)

module _ (ks ls ns : List ℕ) (s n : ℕ) where
  -- a spoilt record
  module _ (e : None ≡ path ks ls ns s n) where
    pub refused : (f : List Segment → List Segment) (Q : Spoilt → Type 0) (r : Result Counts Spoilt) → IsErrAnd r Q → r ≡ counts f (path ks ls ns s n)
    unfolding counts
    refused f Q r h = (err_from_is_err_and r h).1 ∙ rw (← e)

    pub unchanged : (layout : List Segment → List ℕ) (k : ℕ) (old : List ℕ) → old ≡ after layout (path ks ls ns s n) k old
    unfolding after
    unchanged layout k old = rw (← e)

  -- a record of the segments q
  module _ (q : List Segment) (e : Some q ≡ path ks ls ns s n) where
    sound : spoilt ks ls ns s n ≡ false
    unfolding path
    sound = go (spoilt ks ls ns s n) e
      where
        go : (t : Bool) → Some q ≡ cond t None (Some (segments_of ks ls ns s n)) → t ≡ false
        go true f = cc
        go false f = refl

    pub kinds_there : s ≤ length ks
    kinds_there = (unspoilt_record ks ls ns s n sound).kinds_there

    pub lengths_there : s ≤ length ls
    lengths_there = (unspoilt_record ks ls ns s n sound).lengths_there

    pub numbers_there : n ≤ length ns
    numbers_there = (unspoilt_record ks ls ns s n sound).numbers_there

    -- the parts that the calls take
    pub kinds_taken : s ≡ length (take s ks)
    kinds_taken = sym (length-take-le s ks kinds_there)

    pub lengths_taken : s ≡ length (take s ls)
    lengths_taken = sym (length-take-le s ls lengths_there)

    pub numbers_taken : n ≡ length (take n ns)
    numbers_taken = sym (length-take-le n ns numbers_there)

    pub fit : Fit (take s ks) (take s ls) (take n ns)
    fit =
        record {
          same = sym kinds_taken ∙ lengths_taken;
          sums = (unspoilt_record ks ls ns s n sound).sums ∙ numbers_taken;
          few = omega (arith, numbers_taken, (unspoilt_record ks ls ns s n sound).few_numbers);
        }

    pub fit_entries : (length (take s ks) ≡ length (take s ls)) × (sum (take s ls) ≤ 16384)
    fit_entries = (fit.same, omega (arith, fit.sums, fit.few))

    abbrev p : List Segment
    p = cut (take s ks) (take s ls) (take n ns)

    is_path : path ks ls ns s n ≡ Some p
    unfolding segments_of
    is_path = unspoilt_path ks ls ns s n sound

    module _ (ks' ls' : List ℕ) (c : ℕ) (d : Coalesced (take s ks) (take s ls) ks' ls' c) where
      are : coalesced_entries (take s ks) (take s ls) ≡ map entry (coalesce p)
      are = coalesced_entries_lem p (take s ks) (take s ls) (path_kinds ks ls ns s n p is_path) (path_lengths ks ls ns s n p is_path)

      pub coalesced_counts : Ok (counted c n) ≡ counts coalesce (path ks ls ns s n)
      unfolding counts
      coalesced_counts =
          rw is_path
          (ap₂ (λ a b. Ok (counted a b)) (d.count ∙ ap length are ∙ length-map (coalesce p) entry)
          (sym (ap length (coalesce_numbers p ∙ sym (path_numbers ks ls ns s n p is_path)) ∙ length-take-le n ns numbers_there)))

      pub coalesced_kinds : ks' ++ drop s ks ≡ after (λ q. kinds_of (coalesce q)) (path ks ls ns s n) s ks
      unfolding after
      coalesced_kinds = rw (is_path, d.kinds, are, length-take-le s ks kinds_there, entry_kinds (coalesce p))

      pub coalesced_lengths : ls' ++ drop s ls ≡ after (λ q. lengths_of (coalesce q)) (path ks ls ns s n) s ls
      unfolding after
      coalesced_lengths = rw (is_path, d.lengths, are, length-take-le s ls lengths_there, entry_lengths (coalesce p))

    module _ (ks' ls' ns' : List ℕ) (s' n' : ℕ) (d : NormalIn (take s ks) (take s ls) (take n ns) ks' ls' ns' s' n') where
      pub normal_counts : Ok (counted s' n') ≡ counts dedup_coalesce (path ks ls ns s n)
      unfolding counts
      normal_counts = rw is_path (ap₂ (λ a b. Ok (counted a b)) d.segments d.count)

      pub normal_kinds : ks' ++ drop s ks ≡ after (λ q. kinds_of (dedup_coalesce q)) (path ks ls ns s n) s ks
      unfolding after
      normal_kinds = rw (is_path, d.kinds, length-take-le s ks kinds_there)

      pub normal_lengths : ls' ++ drop s ls ≡ after (λ q. lengths_of (dedup_coalesce q)) (path ks ls ns s n) s ls
      unfolding after
      normal_lengths = rw (is_path, d.lengths, length-take-le s ls lengths_there)

      pub normal_numbers : ns' ++ drop n ns ≡ after (λ q. numbers_of (dedup_coalesce q)) (path ks ls ns s n) n ns
      unfolding after
      normal_numbers = rw (is_path, d.numbers, length-take-le n ns numbers_there)

-- for both calls: a spoilt record, and the parts that are taken of another
pub ruleset record_laws = (refused, unchanged, kinds_there, lengths_there, numbers_there, kinds_taken, lengths_taken, numbers_taken, fit, fit_entries)
