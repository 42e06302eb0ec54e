-- Laws of lists cut by a test of their elements.
use borrow.Author.Tests.{not-false}
use Rattle.std.specs.Prelude.{Option, Some}
use Rattle.std.specs.Option.{unwrap_or}
use Rattle.std.specs.List.{list_all, position, position_from}
use Rattle.std.specs.Simd.{first_chunks}
use Rattle.std.proofs.lemmas.Iterator.Adapters.{position_from-zero}
use Prim.Native.Nat.{ℕ, zero, suc, ◌+◌, ◌-◌, ◌*◌, ◌≤◌, ◌<◌}
use mathlib.Core.Path.{◌≡◌, refl, sym, ap, ◌∙◌}
use mathlib.Core.Bool.{Bool, true, false, cond, not, ◌&&◌, ◌||◌, and_assoc, and-true, or_assoc, or-false, false≢true}
use mathlib.Core.List.{List, [], ◌∷◌, ◌++◌, flatten, nil≢cons}
use native.Mathlib.Omega.{arith}
use native.Mathlib.Nat.{add-zero, zero-mul}
use native.Mathlib.Numerals.{add-one}
use lib.ListN.{length, get_or, take, drop, length-append, length-drop, drop_of_length-le}
use lib.Seq.{take_all, take_at, take-add, drop_at, drop-cons, drop-drop, take-suc, get_or-drop}
use Rattle.scan.specs.Lists.{onto, non_empty, all, any_of, take_while, drop_while, end_while, split_by, tokens_by}

pub flatten_onto : {A : Type 0} (x : A) (l : List (List A)) → flatten (onto x l) ≡ x ∷ flatten l
unfolding onto flatten
flatten_onto x [] = refl
flatten_onto x (w ∷ l) = refl

pub flatten_nonEmpty : {A : Type 0} (l : List (List A)) → flatten (non_empty l) ≡ flatten l
unfolding non_empty flatten
flatten_nonEmpty [] = refl
flatten_nonEmpty ([] ∷ l) = flatten_nonEmpty l
flatten_nonEmpty ((x ∷ w) ∷ l) = rw (flatten_nonEmpty l)

pub non_empty_append : {A : Type 0} (a b : List (List A)) → non_empty (a ++ b) ≡ non_empty a ++ non_empty b
unfolding non_empty
non_empty_append [] b = refl
non_empty_append ([] ∷ a) b = non_empty_append a b
non_empty_append ((x ∷ w) ∷ a) b = rw (non_empty_append a b)

-- the first n chunks of k elements, joined again
pub flatten_chunks : {A : Type 0} (k n : ℕ) (t : List A) → flatten (first_chunks k n t) ≡ take (n * k) t
unfolding flatten
flatten_chunks k zero t = rw zero-mul refl
flatten_chunks k (suc n) t =
    let e : suc n * k ≡ k + n * k = omega arith in
    rw (e, take-add) (ap (λ l. take k t ++ l) (flatten_chunks k n (drop k t)))

module _ {A : Type 0} (p : A → Bool) where
  -- the longest front and what is behind it are the whole
  pub take_while_drop_while : (s : List A) → take_while p s ++ drop_while p s ≡ s
  unfolding take_while drop_while
  take_while_drop_while [] = refl
  take_while_drop_while (x ∷ s) = go (p x) (take_while_drop_while s)
    where
      go : (z : Bool) → take_while p s ++ drop_while p s ≡ s → cond z (x ∷ take_while p s) [] ++ cond z (drop_while p s) (x ∷ s) ≡ x ∷ s
      go true e = rw e
      go false e = refl

  -- so its length says where it ends
  pub take_while_take : (s : List A) → take (length (take_while p s)) s ≡ take_while p s
  take_while_take s = sym (ap (take (length (take_while p s))) (take_while_drop_while s)) ∙ take_at (take_while p s) (drop_while p s) (length (take_while p s)) refl

  pub drop_while_drop : (s : List A) → drop (length (take_while p s)) s ≡ drop_while p s
  drop_while_drop s = sym (ap (drop (length (take_while p s))) (take_while_drop_while s)) ∙ drop_at (take_while p s) (drop_while p s) (length (take_while p s)) refl

  pub take_while_length : (s : List A) → length (take_while p s) ≤ length s
  take_while_length s = omega (arith, ap length (take_while_drop_while s), length-append (take_while p s) (drop_while p s))

  -- what is behind the place where it ends
  pub drop_endWhile : (s : List A) (i : ℕ) → drop (end_while p s i) s ≡ drop_while p (drop i s)
  drop_endWhile s i = sym (drop-drop (length (take_while p (drop i s))) i s) ∙ drop_while_drop (drop i s)

  pub end_while_inside : (s : List A) (i : ℕ) → i ≤ length s → end_while p s i ≤ length s
  end_while_inside s i h = omega (arith, take_while_length (drop i s), length-drop i s)

  pub end_while_past : (s : List A) (i : ℕ) → length s ≤ i → end_while p s i ≡ i
  unfolding take_while
  end_while_past s i h = rw (drop_of_length-le s h) (add-zero i)

  -- a scan: the end sought from `at` on is the one from i on
  module _ (s : List A) (at i : ℕ) (e : end_while p s at ≡ end_while p s i) where
    pub scan_stop : (d : A) → i < length s → p (get_or s i d) ≡ false → i ≡ end_while p s at
    unfolding take_while
    scan_stop d h f = sym (e ∙ rw (drop-cons s i d h, f) (add-zero i))

    pub scan_on : (d : A) → i < length s → p (get_or s i d) ≡ true → end_while p s at ≡ end_while p s (i + 1)
    unfolding take_while
    scan_on d h f = e ∙ rw (drop-cons s i d h, f, add-one) (omega arith)

  -- the scan ends at the first element that does not pass, else at the list's end
  place_from : (n : ℕ) (t : List A) → unwrap_or (position_from (λ x. not (p x)) n t) (n + length t) ≡ n + length (take_while p t)
  unfolding take_while
  place_from n [] = refl
  place_from n (x ∷ t) = go (p x) (place_from (n + 1) t)
    where
      go : (z : Bool) → unwrap_or (position_from (λ x. not (p x)) (n + 1) t) (n + 1 + length t) ≡ n + 1 + length (take_while p t)
          → unwrap_or (cond (not z) (Some n) (position_from (λ x. not (p x)) (n + 1) t)) (n + suc (length t)) ≡ n + length (cond z (x ∷ take_while p t) [])
      go false e = omega arith
      go true e =
          let k : n + suc (length t) ≡ n + 1 + length t = omega arith in
          let m : n + suc (length (take_while p t)) ≡ n + 1 + length (take_while p t) = omega arith in
          rw (k, m) e

  pub end_while_position : (s : List A) (at : ℕ) → at < length s → (f : Option ℕ) → f ≡ position (λ x. not (p x)) (take (length s - at) (drop at s))
      → at + unwrap_or f (length (take (length s - at) (drop at s))) ≡ end_while p s at
  end_while_position s at h f q =
      let t : take (length s - at) (drop at s) ≡ drop at s = take_all (length s - at) (drop at s) (rw length-drop (omega arith)) in
      let e : f ≡ position_from (λ x. not (p x)) 0 (drop at s) = q ∙ ap (position (λ x. not (p x))) t ∙ position_from-zero (λ x. not (p x)) (drop at s) in
      let a : 0 + length (drop at s) ≡ length (drop at s) = omega arith in
      let b : 0 + length (take_while p (drop at s)) ≡ length (take_while p (drop at s)) = omega arith in
      rw (t, e) (ap (λ n. at + n) (rw (a, b) at (place_from 0 (drop at s))))

  -- whether all elements pass, of a list in two parts and with one element more
  pub all_append : (l m : List A) → all p (l ++ m) ≡ (all p l && all p m)
  unfolding all
  all_append [] m = refl
  all_append (x ∷ l) m = ap (λ b. p x && b) (all_append l m) ∙ sym (and_assoc (p x) (all p l) (all p m))

  pub all_next : (l : List A) (i : ℕ) (d : A) → i < length l → all p (take (i + 1) l) ≡ (all p (take i l) && p (get_or l i d))
  unfolding all
  all_next l i d h = rw (add-one, take-suc l i d h, all_append) (rw and-true)

  pub pass_none : true ≡ all p []
  unfolding all
  pass_none = refl

  module _ (s : List A) (i : ℕ) (r : Bool) (e : r ≡ all p (take i s)) where
    pub pass_next : (d : A) → i < length s → (r && p (get_or s i d)) ≡ all p (take (i + 1) s)
    pass_next d h = sym (all_next s i d h ∙ rw e)

    pub pass_all : length s ≤ i → r ≡ all p s
    pass_all h = e ∙ ap (all p) (take_all i s h)

  -- of lists joined, all elements pass where those of each list do
  pub all_flatten : (l : List (List A)) → list_all (λ c. all p c) l ≡ all p (flatten l)
  unfolding all flatten
  all_flatten [] = refl
  all_flatten (c ∷ l) = ap (λ b. all p c && b) (all_flatten l) ∙ sym (all_append c (flatten l))

  -- where one of the first n does not pass, fewer stand before the first that does not
  pub all_before : (n : ℕ) (s : List A) → all p (take n s) ≡ false → length (take_while p s) < n
  unfolding all take_while
  all_before zero s e = absurd (false≢true (sym e))
  all_before (suc n) [] e = absurd (false≢true (sym e))
  all_before (suc n) (x ∷ s) e = go (p x) e (all_before n s)
    where
      go : (z : Bool) → (z && all p (take n s)) ≡ false → (all p (take n s) ≡ false → length (take_while p s) < n) → length (cond z (x ∷ take_while p s) []) < suc n
      go true e ih = let h : length (take_while p s) < n = ih e in omega arith
      go false e ih = omega arith

  any_of_append : (a b : List A) → any_of p (a ++ b) ≡ (any_of p a || any_of p b)
  unfolding any_of
  any_of_append [] b = refl
  any_of_append (x ∷ a) b = rw (any_of_append a b) (sym (or_assoc (p x) (any_of p a) (any_of p b)))

  -- whether one of the next elements passes
  pub any_of_next : (s : List A) (i k : ℕ) (d : A) → i + k < length s → any_of p (take (k + 1) (drop i s)) ≡ (any_of p (take k (drop i s)) || p (get_or s (i + k) d))
  unfolding any_of
  any_of_next s i k d h =
      let l : k < length (drop i s) = rw length-drop (omega arith) in
      rw (add-one, take-suc (drop i s) k d l, any_of_append, get_or-drop) (rw or-false)

  -- where one of the first n passes, fewer stand before the first that does
  pub any_of_before : (n : ℕ) (s : List A) → any_of p (take n s) ≡ true → length (take_while (λ x. not (p x)) s) < n
  unfolding any_of take_while
  any_of_before zero s e = absurd (false≢true e)
  any_of_before (suc n) [] e = absurd (false≢true e)
  any_of_before (suc n) (x ∷ s) e = go (p x) e (any_of_before n s)
    where
      go : (z : Bool) → (z || any_of p (take n s)) ≡ true → (any_of p (take n s) ≡ true → length (take_while (λ x. not (p x)) s) < n)
          → length (cond (not z) (x ∷ take_while (λ x. not (p x)) s) []) < suc n
      go true e ih = omega arith
      go false e ih = let h : length (take_while (λ x. not (p x)) s) < n = ih e in omega arith

  -- an element passes where not all fail
  pub any_of_all : (s : List A) → any_of p s ≡ not (all (λ x. not (p x)) s)
  unfolding any_of all
  any_of_all [] = refl
  any_of_all (x ∷ s) = go (p x) (any_of_all s)
    where
      go : (z : Bool) → any_of p s ≡ not (all (λ x. not (p x)) s) → (z || any_of p s) ≡ not (not z && all (λ x. not (p x)) s)
      go true e = refl
      go false e = e

  -- what is behind it starts with an element that does not pass
  pub drop_while_head : (s : List A) (x : A) (t : List A) → drop_while p s ≡ x ∷ t → p x ≡ false
  unfolding drop_while
  drop_while_head [] x t e = absurd (nil≢cons e)
  drop_while_head (y ∷ s) x t e = go (p y) refl e (λ d. drop_while_head s x t d)
    where
      go : (z : Bool) → p y ≡ z → cond z (drop_while p s) (y ∷ s) ≡ x ∷ t → (drop_while p s ≡ x ∷ t → p x ≡ false) → p x ≡ false
      go true f d ih = ih d
      go false f d ih = let h : y ≡ x = cc in sym (ap p h) ∙ f

  -- the elements that pass are passed over in front of a token
  pub tokens_by_drop_while : (s : List A) → tokens_by p (drop_while p s) ≡ tokens_by p s
  unfolding split_by non_empty drop_while
  tokens_by_drop_while [] = refl
  tokens_by_drop_while (x ∷ s) = go (p x) refl (tokens_by_drop_while s)
    where
      go : (z : Bool) → p x ≡ z → tokens_by p (drop_while p s) ≡ tokens_by p s
          → tokens_by p (cond z (drop_while p s) (x ∷ s)) ≡ non_empty (cond z ([] ∷ split_by p s) (onto x (split_by p s)))
      go true f e = e
      go false f e = rw f

  -- no tokens where all elements pass
  pub tokens_by_none : (s : List A) → drop_while p s ≡ [] → tokens_by p s ≡ []
  unfolding split_by non_empty
  tokens_by_none s e = sym (tokens_by_drop_while s) ∙ rw e

  -- the first piece runs up to the first element that passes; the tokens go on behind it
  piece : (s : List A) → (l : List (List A)) × (split_by p s ≡ take_while (λ x. not (p x)) s ∷ l) × (non_empty l ≡ tokens_by p (drop_while (λ x. not (p x)) s))
  unfolding split_by onto non_empty take_while drop_while
  piece [] = ([], refl, refl)
  piece (x ∷ s) = go (p x) refl (piece s)
    where
      go : (z : Bool) → p x ≡ z
          → (l : List (List A)) × (split_by p s ≡ take_while (λ x. not (p x)) s ∷ l) × (non_empty l ≡ tokens_by p (drop_while (λ x. not (p x)) s))
          → (l : List (List A)) × (cond z ([] ∷ split_by p s) (onto x (split_by p s)) ≡ cond (not z) (x ∷ take_while (λ x. not (p x)) s) [] ∷ l)
          × (non_empty l ≡ tokens_by p (cond (not z) (drop_while (λ x. not (p x)) s) (x ∷ s)))
      go true f w = (split_by p s, refl, rw f)
      go false f w = (w.0, rw w.1, w.2)

  -- a text that starts with an element that does not pass: the first token runs up to one that does
  pub tokens_by_cons : (x : A) (t : List A) → p x ≡ false
      → tokens_by p (x ∷ t) ≡ take_while (λ x. not (p x)) (x ∷ t) ∷ tokens_by p (drop_while (λ x. not (p x)) (x ∷ t))
  unfolding non_empty take_while
  tokens_by_cons x t f = rw (w.1, f) (rw w.2)
    where
      w : (l : List (List A)) × (split_by p (x ∷ t) ≡ take_while (λ x. not (p x)) (x ∷ t) ∷ l) × (non_empty l ≡ tokens_by p (drop_while (λ x. not (p x)) (x ∷ t)))
      w = piece (x ∷ t)

  -- the first token of a text, and the tokens behind it
  pub tokens_by_some : (s : List A) (x : A) (t : List A) → drop_while p s ≡ x ∷ t
      → tokens_by p s ≡ take_while (λ x. not (p x)) (x ∷ t) ∷ tokens_by p (drop_while (λ x. not (p x)) (x ∷ t))
  tokens_by_some s x t e = sym (tokens_by_drop_while s) ∙ rw e (tokens_by_cons x t (drop_while_head s x t e))

  -- the tokens from the place i on, by places: the first starts where the elements that pass end
  module _ (s : List A) (i : ℕ) where
    pub no_token_at : length s ≤ end_while p s i → tokens_by p (drop i s) ≡ []
    no_token_at h = tokens_by_none (drop i s) (sym (drop_endWhile s i) ∙ drop_of_length-le s h)

    module _ (d : A) (h : end_while p s i < length s) where
      split : drop_while p (drop i s) ≡ get_or s (end_while p s i) d ∷ drop (suc (end_while p s i)) s
      split = sym (drop_endWhile s i) ∙ drop-cons s (end_while p s i) d h

      pub token_at_lem : tokens_by p (drop i s)
          ≡ take_while (λ x. not (p x)) (drop (end_while p s i) s) ∷ tokens_by p (drop_while (λ x. not (p x)) (drop (end_while p s i) s))
      token_at_lem = rw (drop-cons s (end_while p s i) d h) (tokens_by_some (drop i s) (get_or s (end_while p s i) d) (drop (suc (end_while p s i)) s) split)

      pub token_size : 0 < length (take_while (λ x. not (p x)) (drop (end_while p s i) s))
      unfolding take_while
      token_size = rw (drop-cons s (end_while p s i) d h, drop_while_head (drop i s) (get_or s (end_while p s i) d) (drop (suc (end_while p s i)) s) split) (omega arith)

module _ {A : Type 0} (p : A → Bool) where
  -- where each of the next n elements passes, one that does not is sought behind them
  pub end_while_over : (s : List A) (n i : ℕ) (d : A) → i + n ≤ length s → all p (take n (drop i s)) ≡ true → end_while p s i ≡ end_while p s (i + n)
  unfolding all
  end_while_over s zero i d h f = rw add-zero
  end_while_over s (suc n) i d h f = go (p (get_or s i d)) refl (rw (drop-cons s i d l) at f) (λ g. end_while_over s n (i + 1) d (omega arith) (rw add-one g))
    where
      l : i < length s
      l = omega arith

      go : (z : Bool) → p (get_or s i d) ≡ z → (z && all p (take n (drop (suc i) s))) ≡ true
          → (all p (take n (drop (suc i) s)) ≡ true → end_while p s (i + 1) ≡ end_while p s (i + 1 + n))
          → end_while p s i ≡ end_while p s (i + suc n)
      go false e f ih = absurd (false≢true f)
      go true e f ih =
          let k : i + suc n ≡ i + 1 + n = omega arith in
          scan_on p s i i refl d l e ∙ ih f ∙ rw k

-- the same by the test that ends the scan
pub end_while_over_any : {A : Type 0} (p : A → Bool) (s : List A) (n i : ℕ) (d : A) → i + n ≤ length s → any_of p (take n (drop i s)) ≡ false
    → end_while (λ x. not (p x)) s i ≡ end_while (λ x. not (p x)) s (i + n)
end_while_over_any p s n i d h f =
    end_while_over (λ x. not (p x)) s n i d h (not-false (all (λ x. not (p x)) (take n (drop i s))) (sym (any_of_all p (take n (drop i s))) ∙ f))

-- what a loop over all elements uses
pub ruleset passed_laws = (pass_none, pass_next, pass_all)
