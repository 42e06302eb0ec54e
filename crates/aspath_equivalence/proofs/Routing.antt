-- The answer of `has_equivalent_routing` from what its calls ensure. P and Q stand for what the two records hold.
use Rattle.std.proofs.Common.{◌≡◌, ℕ, ◌-◌, ◌≤◌, Bool, ◌&&◌, List, ◌++◌, Option, Some, None, Result, Ok, Err, length, take, drop, replicate, refl, sym, ap, ◌∙◌, arith, append_assoc, length-append}
use Rattle.std.specs.Prelude.{IsErrAnd}
use Rattle.std.proofs.lemmas.List.{length-map}
use Rattle.std.proofs.lemmas.Result.{err_from_is_err_and}
use Rattle.std.proofs.Math.Path.{ap₂}
use Rattle.std.proofs.Math.Seq.{take_at}
use Rattle.aspath.specs.declared.Spoilt.{Spoilt}
use Rattle.aspath.specs.Queries.{spoilt_record}
use Rattle.aspath.specs.Record.{Segment, kinds_of, lengths_of, numbers_of}
use Rattle.aspath_normal.specs.declared.Counts.{Counts}
use Rattle.aspath_normal.specs.declared.LentPath.{LentPath}
use Rattle.aspath_normal.specs.Normal.{dedup_coalesce}
use Rattle.aspath_normal.specs.Layout.{in_place, after, counts_of, counts}
use Rattle.aspath_normal.specs.Lent.{path_lent, LeftAs}
use Rattle.aspath_normal.proofs.Answers.{read_path}
use Rattle.aspath_normal.proofs.Normal.{normal_sorted}
use Rattle.aspath_equivalence.specs.Routing.{same_numbers, equivalent, both, equivalence}
use Rattle.aspath_equivalence.specs.declared.Equivalence.{Equivalence}
use Rattle.aspath_equivalence.proofs.Lists.{same_by_lists}

both_none : (P Q : Option (List Segment)) → P ≡ None → (both P Q ≡ None) × (both Q P ≡ None)
unfolding both
both_none P (Some q) e = rw e (refl, refl)
both_none P None e = rw e (refl, refl)

-- where there is no path, the lists are as they were
unchanged : (P : Option (List Segment)) → P ≡ None → (r : LentPath) → LeftAs dedup_coalesce P r r
unfolding after
unchanged P e r =
    record {
      same_kinds = refl;
      same_lengths = refl;
      same_numbers = refl;
      same_segments = refl;
      same_count = refl;
      kinds = rw e;
      lengths = rw e;
      numbers = rw e;
    }

-- the second record, which is read as R, is spoilt: nothing is changed
module _ (P Q R : Option (List Segment)) (e : None ≡ R) (f : R ≡ Q) where
  pub second_refused : (S : Spoilt → Type 0) (r : Result Equivalence Spoilt) → IsErrAnd r S → r ≡ equivalence P Q
  unfolding equivalence
  second_refused S r h = (err_from_is_err_and r h).1 ∙ go P
    where
      go : (P : Option (List Segment)) → Err spoilt_record ≡ equivalence P Q
      go (Some p) = rw (← f, ← e)
      go None = refl

  pub second_spoilt : (r : LentPath) → LeftAs dedup_coalesce (both P Q) r r
  second_spoilt r = unchanged (both P Q) (both_none Q P (sym (e ∙ f))).1 r

  pub second_spoilt_itself : (r : LentPath) → LeftAs dedup_coalesce (both Q P) r r
  second_spoilt_itself r = unchanged (both Q P) (both_none Q P (sym (e ∙ f))).0 r

pub refused_none : (P : Option (List Segment)) (r : Spoilt) → Err r ≡ counts dedup_coalesce P → P ≡ None
unfolding counts
refused_none (Some p) r e = absurd (cc)
refused_none None r e = refl

-- the first is, as the call that changes it found
module _ (P Q : Option (List Segment)) (s : Spoilt) (e : Err s ≡ counts dedup_coalesce P) where
  pub first_refused : (S : Spoilt → Type 0) (r : Result Equivalence Spoilt) → IsErrAnd r S → r ≡ equivalence P Q
  unfolding equivalence
  first_refused S r h = (err_from_is_err_and r h).1 ∙ rw (refused_none P s e)

  pub first_spoilt : (r : LentPath) → LeftAs dedup_coalesce (both Q P) r r
  first_spoilt r = unchanged (both Q P) (both_none P Q (refused_none P s e)).1 r

  pub first_spoilt_itself : (old new : LentPath) → LeftAs dedup_coalesce P old new → LeftAs dedup_coalesce (both P Q) old new
  first_spoilt_itself old new f =
      let none = refused_none P s e in
      let same = (both_none P Q none).0 ∙ sym none in
      rw same f

-- for the refusals of both
pub ruleset refusals = (second_refused, read_path, first_refused)

-- where the second has a path, a layout of both is the first's
pub both_after : (P Q : Option (List Segment)) → (Q ≡ None → ⊥) → (layout : List Segment → List ℕ) (n : ℕ) (old new : List ℕ)
    → new ≡ after layout P n old → new ≡ after layout (both P Q) n old
unfolding both
both_after (Some p) (Some q) h layout n old new e = e
both_after (Some p) None h layout n old new e = absurd (h refl)
both_after None Q h layout n old new e = e

-- no record is spoilt: each list is as `dedup_coalesce` left it
pub both_left : (P Q : Option (List Segment)) (q : List Segment) → Some q ≡ Q → (old new : LentPath)
    → LeftAs dedup_coalesce P old new → LeftAs dedup_coalesce (both P Q) old new
unfolding both
both_left (Some p) Q q f old new e = rw (← f) e
both_left None Q q f old new e = e

-- a record that was counted holds a path
pub counted : (P : Option (List Segment)) (v : Counts) → Ok v ≡ counts dedup_coalesce P → (p : List Segment) × (Some p ≡ P) × (v ≡ counts_of (dedup_coalesce p))
unfolding counts
counted (Some p) v e = (p, refl, cc)
counted None v e = absurd (cc)

-- what stands at the front of a list that was rewritten in place
module _ (layout : List Segment → List ℕ) (P : Option (List Segment)) (p : List Segment) (h : Some p ≡ P) (c m : ℕ) (old new : List ℕ)
    (e : new ≡ after layout P c old) (fits : length (layout p) ≡ m) where
  placed : new ≡ in_place c (layout p) old
  unfolding after
  placed = e ∙ rw (← h)

  pub there : m ≤ length new
  there =
      omega (
        arith,
        fits,
        length-append (layout p) (replicate (c - length (layout p)) 0),
        length-append (layout p ++ replicate (c - length (layout p)) 0) (drop c old),
        ap length placed,
      )

  pub taken : take m new ≡ layout p
  taken =
      rw placed
      (ap (take m) (append_assoc (layout p) (replicate (c - length (layout p)) 0) (drop c old))
      ∙ take_at (layout p) (replicate (c - length (layout p)) 0 ++ drop c old) m fits)

-- a lent record of which `dedup_coalesce` answered the counts v
module _ (v : Counts) (old new : LentPath) (value : Ok v ≡ counts dedup_coalesce (path_lent old)) (e : LeftAs dedup_coalesce (path_lent old) old new) where
  abbrev p : List Segment
  p = (counted (path_lent old) v value).0

  is_path : Some p ≡ path_lent old
  is_path = (counted (path_lent old) v value).1

  is_counts : v ≡ counts_of (dedup_coalesce p)
  is_counts = (counted (path_lent old) v value).2

  pub kinds_fit : length (kinds_of (dedup_coalesce p)) ≡ v.segments
  kinds_fit = length-map (dedup_coalesce p) (λ x. x.kind) ∙ sym (ap (λ (w : Counts). w.segments) is_counts)

  pub lengths_fit : length (lengths_of (dedup_coalesce p)) ≡ v.segments
  lengths_fit = length-map (dedup_coalesce p) (λ x. length x.numbers) ∙ sym (ap (λ (w : Counts). w.segments) is_counts)

  pub numbers_fit : length (numbers_of (dedup_coalesce p)) ≡ v.numbers
  numbers_fit = sym (ap (λ (w : Counts). w.numbers) is_counts)

  -- the parts that are read of the lists
  pub parts_left : (v.segments ≤ length new.kinds.now) × (v.segments ≤ length new.lengths.now) × (v.numbers ≤ length new.numbers.now)
  parts_left = (
    there (λ p. kinds_of (dedup_coalesce p)) _ p is_path _ _ _ _ e.kinds kinds_fit,
    there (λ p. lengths_of (dedup_coalesce p)) _ p is_path _ _ _ _ e.lengths lengths_fit,
    there (λ p. numbers_of (dedup_coalesce p)) _ p is_path _ _ _ _ e.numbers numbers_fit,
  )

  pub kinds_taken : take v.segments new.kinds.now ≡ kinds_of (dedup_coalesce p)
  kinds_taken = taken (λ p. kinds_of (dedup_coalesce p)) _ p is_path _ _ _ _ e.kinds kinds_fit

  pub lengths_taken : take v.segments new.lengths.now ≡ lengths_of (dedup_coalesce p)
  lengths_taken = taken (λ p. lengths_of (dedup_coalesce p)) _ p is_path _ _ _ _ e.lengths lengths_fit

  pub numbers_taken : take v.numbers new.numbers.now ≡ numbers_of (dedup_coalesce p)
  numbers_taken = taken (λ p. numbers_of (dedup_coalesce p)) _ p is_path _ _ _ _ e.numbers numbers_fit

-- two paths and the counts of their normal forms
both_counted : (P Q : Option (List Segment)) (p q : List Segment) (v w : Counts) (r : Bool) → Some p ≡ P → Some q ≡ Q → v ≡ counts_of (dedup_coalesce p)
    → w ≡ counts_of (dedup_coalesce q) → r ≡ equivalent p q → Ok record { equivalent = r; first = v; second = w } ≡ equivalence P Q
unfolding equivalence
both_counted P Q p q v w r i j k l same = rw (← i, ← j, k, l, same)

module _ (v : Counts) (old new : LentPath) (value : Ok v ≡ counts dedup_coalesce (path_lent old)) (e : LeftAs dedup_coalesce (path_lent old) old new)
    (w : Counts) (old2 new2 : LentPath) (value2 : Ok w ≡ counts dedup_coalesce (path_lent old2)) (d : LeftAs dedup_coalesce (path_lent old2) old2 new2)
  where
    pub answered : (r : Bool)
        → r
        ≡ same_numbers (take v.segments new.kinds.now) (take w.segments new2.kinds.now)
        && (same_numbers (take v.segments new.lengths.now) (take w.segments new2.lengths.now)
        && same_numbers (take v.numbers new.numbers.now) (take w.numbers new2.numbers.now))
        → Ok record { equivalent = r; first = v; second = w } ≡ equivalence (path_lent old) (path_lent old2)
    answered r f =
        let p' = p v old new value e in
        let q' = p w old2 new2 value2 d in
        let same : r ≡ equivalent p' q'
        = f
        ∙ ap₂ (λ x y. x && y)
        (ap₂ same_numbers (kinds_taken v old new value e) (kinds_taken w old2 new2 value2 d))
        (ap₂ (λ x y. x && y)
        (ap₂ same_numbers (lengths_taken v old new value e) (lengths_taken w old2 new2 value2 d))
        (ap₂ same_numbers (numbers_taken v old new value e) (numbers_taken w old2 new2 value2 d)))
        ∙ same_by_lists (dedup_coalesce p') (dedup_coalesce q') (normal_sorted p') (normal_sorted q') in
        both_counted _ _ p' q' v w r (is_path v old new value e) (is_path w old2 new2 value2 d) (is_counts v old new value e)
        (is_counts w old2 new2 value2 d) same
