-- Laws of reversed, trimmed and split lists: of tests that all elements pass, and of mapped
-- elements.
use mathlib.Core.Path.{◌≡◌, refl, sym, ap, ◌∙◌}
use mathlib.Core.List.{List, [], ◌∷◌, ◌++◌, append-nil, append_assoc, map, reverse, reverse_aux, reverse-append, reverse-cons, reverse-reverse}
use mathlib.Core.Bool.{Bool, true, false, cond}
use Rattle.scan.specs.Lists.{onto, non_empty, take_while, drop_while, split_by, tokens_by}
use Rattle.scan.proofs.ListLaws.{take_while_drop_while, drop_while_head}
use Rattle.utf8.specs.Utf8.{all}
use Rattle.utf8.proofs.TestLaws.{both}
use Rattle.text.specs.White.{drop_while_end}

module _ {A : Type 0} (p : A → Bool) where
  pub all_reverse : (l : List A) → all p l ≡ true → all p (reverse l) ≡ true
  unfolding all
  all_reverse l e = go l [] e refl
    where
      go : (l r : List A) → all p l ≡ true → all p r ≡ true → all p (reverse_aux l r) ≡ true
      go [] r e f = f
      go (x ∷ l) r e f = let b = both (p x) (all p l) e in go l (x ∷ r) b.1 (simp (b.0, f))

  -- the pieces of a list
  pub all_tokens : (q : A → Bool) (l : List A) → all p l ≡ true → all (all p) (tokens_by q l) ≡ true
  unfolding all non_empty split_by onto
  all_tokens q l e = filled (split_by q l) (pieces l e)
    where
      filled : (m : List (List A)) → all (all p) m ≡ true → all (all p) (non_empty m) ≡ true
      filled [] e = refl
      filled ([] ∷ m) e = filled m e
      filled ((x ∷ w) ∷ m) e = let b = both (all p (x ∷ w)) (all (all p) m) e in simp (b.0, filled m b.1)

      into : (x : A) (m : List (List A)) → p x ≡ true → all (all p) m ≡ true → all (all p) (onto x m) ≡ true
      into x [] f e = simp f
      into x (w ∷ m) f e = simp (f, e)

      by : (t : Bool) (x : A) (m : List (List A)) → p x ≡ true → all (all p) m ≡ true → all (all p) (cond t ([] ∷ m) (onto x m)) ≡ true
      by true x m f e = e
      by false x m f e = into x m f e

      pieces : (l : List A) → all p l ≡ true → all (all p) (split_by q l) ≡ true
      pieces [] e = refl
      pieces (x ∷ l) e = let b = both (p x) (all p l) e in by (q x) x (split_by q l) b.0 (pieces l b.1)

-- a test p of the mapped elements is a test q of the elements, where these pass r
module _ {A B : Type 0} (f : A → B) where
  pub map_reverse : (l : List A) → map f (reverse l) ≡ reverse (map f l)
  map_reverse l = go l []
    where
      go : (l r : List A) → map f (reverse_aux l r) ≡ reverse_aux (map f l) (map f r)
      go [] r = refl
      go (x ∷ l) r = go l (x ∷ r)

  module _ (p : B → Bool) (q r : A → Bool) (same : (x : A) → r x ≡ true → p (f x) ≡ q x) where
    pub drop_while_map : (l : List A) → all r l ≡ true → drop_while p (map f l) ≡ map f (drop_while q l)
    unfolding all drop_while
    drop_while_map [] e = refl
    drop_while_map (x ∷ l) e = let b = both (r x) (all r l) e in ap (λ t. cond t (drop_while p (map f l)) (f x ∷ map f l)) (same x b.0) ∙ by (q x) (drop_while_map l b.1)
      where
        by : (t : Bool) → drop_while p (map f l) ≡ map f (drop_while q l) → cond t (drop_while p (map f l)) (f x ∷ map f l) ≡ map f (cond t (drop_while q l) (x ∷ l))
        by true i = i
        by false i = refl

    pub tokens_map : (l : List A) → all r l ≡ true → tokens_by p (map f l) ≡ map (map f) (tokens_by q l)
    unfolding all non_empty split_by onto
    tokens_map l e = ap non_empty (pieces l e) ∙ filled (split_by q l)
      where
        filled : (m : List (List A)) → non_empty (map (map f) m) ≡ map (map f) (non_empty m)
        filled [] = refl
        filled ([] ∷ m) = filled m
        filled ((x ∷ w) ∷ m) = ap (λ l. map f (x ∷ w) ∷ l) (filled m)

        into : (x : A) (m : List (List A)) → onto (f x) (map (map f) m) ≡ map (map f) (onto x m)
        into x [] = refl
        into x (w ∷ m) = refl

        by : (t : Bool) (x : A) (m : List (List A)) → cond t ([] ∷ map (map f) m) (onto (f x) (map (map f) m)) ≡ map (map f) (cond t ([] ∷ m) (onto x m))
        by true x m = refl
        by false x m = into x m

        pieces : (l : List A) → all r l ≡ true → split_by p (map f l) ≡ map (map f) (split_by q l)
        pieces [] e = refl
        pieces (x ∷ l) e =
            let b = both (r x) (all r l) e in
            ap (λ t. cond t ([] ∷ split_by p (map f l)) (onto (f x) (split_by p (map f l)))) (same x b.0)
            ∙ ap (λ m. cond (q x) ([] ∷ m) (onto (f x) m)) (pieces l b.1)
            ∙ by (q x) x (split_by q l)

-- taking the passing elements off the front and off the end, in either order
module _ {A : Type 0} (p : A → Bool) where
  all_takeWhile : (l : List A) → all p (take_while p l) ≡ true
  unfolding all take_while
  all_takeWhile [] = refl
  all_takeWhile (x ∷ l) = go (p x) refl (all_takeWhile l)
    where
      go : (t : Bool) → p x ≡ t → all p (take_while p l) ≡ true → all p (cond t (x ∷ take_while p l) []) ≡ true
      go true e i = simp (e, i)
      go false e i = refl

  past : (a b : List A) → all p a ≡ true → drop_while p (a ++ b) ≡ drop_while p b
  unfolding all drop_while
  past [] b e = refl
  past (x ∷ a) b e = let r = both (p x) (all p a) e in simp r.0 (past a b r.1)

  upto_kept : (r : List A) (x : A) (b : List A) → p x ≡ false → drop_while p (r ++ (x ∷ b)) ≡ drop_while p r ++ (x ∷ b)
  unfolding drop_while
  upto_kept [] x b e = simp e
  upto_kept (y ∷ r) x b e = go (p y) (upto_kept r x b e)
    where
      go : (t : Bool) → drop_while p (r ++ (x ∷ b)) ≡ drop_while p r ++ (x ∷ b)
          → cond t (drop_while p (r ++ (x ∷ b))) (y ∷ (r ++ (x ∷ b))) ≡ cond t (drop_while p r) (y ∷ r) ++ (x ∷ b)
      go true i = i
      go false i = refl

  -- what is in front of an element that is kept at the end is kept
  end_kept : (a : List A) (x : A) (m : List A) → p x ≡ false → drop_while_end p (a ++ (x ∷ m)) ≡ a ++ (x ∷ drop_while_end p m)
  end_kept a x m e =
      ap (λ l. reverse (drop_while p l)) (reverse-append a (x ∷ m) ∙ ap (λ l. l ++ reverse a) (reverse-cons x m) ∙ append_assoc (reverse m) (x ∷ []) (reverse a))
      ∙ ap reverse (upto_kept (reverse m) x (reverse a) e)
      ∙ reverse-append (drop_while p (reverse m)) (x ∷ reverse a)
      ∙ ap (λ l. l ++ reverse (drop_while p (reverse m))) (reverse-cons x (reverse a) ∙ ap (λ l. l ++ (x ∷ [])) (reverse-reverse a))
      ∙ append_assoc a (x ∷ []) (reverse (drop_while p (reverse m)))

  pub drop_both : (l : List A) → drop_while p (drop_while_end p l) ≡ drop_while_end p (drop_while p l)
  unfolding drop_while
  drop_both l = go (drop_while p l) refl
    where
      whole : (m : List A) → drop_while p l ≡ m → l ≡ take_while p l ++ m
      whole m f = sym (take_while_drop_while p l) ∙ ap (λ x. take_while p l ++ x) f

      go : (m : List A) → drop_while p l ≡ m → drop_while p (drop_while_end p l) ≡ drop_while_end p m
      go [] f =
          let e : all p l ≡ true = ap (all p) (whole [] f ∙ append-nil (take_while p l)) ∙ all_takeWhile l in
          let n : drop_while p (reverse l) ≡ [] = ap (drop_while p) (sym (append-nil (reverse l))) ∙ past (reverse l) [] (all_reverse p l e) in
          ap (λ r. drop_while p (reverse r)) n
      go (x ∷ m) f =
          let e : p x ≡ false = drop_while_head p l x m f in
          ap (λ r. drop_while p (drop_while_end p r)) (whole (x ∷ m) f)
          ∙ ap (drop_while p) (end_kept (take_while p l) x m e)
          ∙ past (take_while p l) (x ∷ drop_while_end p m) (all_takeWhile l)
          ∙ simp e (sym (end_kept [] x m e))
