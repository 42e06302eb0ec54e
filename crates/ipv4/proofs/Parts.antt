-- Laws of a text's parts.
use Rattle.std.specs.Prelude.{Option, Some, None}
use mathlib.Core.Path.{◌≡◌, refl, sym, ap, ◌∙◌}
use mathlib.Core.List.{List, [], ◌∷◌}
use mathlib.Core.Bool.{Bool, true, false, cond}
use Prim.Native.Nat.{ℕ, suc, ◌+◌, ◌*◌, ◌^◌, ◌≤◌, ◌<◌}
use native.Mathlib.Numerals.{add-one}
use native.Mathlib.Nat.{add-zero, pow-suc, mul-le-mul_right, lt_of_lt_of_le, pow-le-pow_right}
use native.Mathlib.Omega.{arith}
use lib.ListN.{length, get_or, take, drop, drop_of_length-le}
use lib.Seq.{drop-cons, length-take-le}
use lib.Dec.{eqb, leb}
use borrow.Author.Tests.{eq-eqb, ne_eqb, leb-true, leb-false}
use Rattle.scan.specs.Lists.{split_by, onto}
use Rattle.ipv4.specs.Parts.{parts, before, prepend, each, number}

-- what stands before the first c, byte by byte
pub before_here : (c : ℕ) (s : List ℕ) (i : ℕ) → i < length s → get_or s i 0 ≡ c → before c (drop i s) ≡ []
unfolding before
before_here c s i h e = rw (drop-cons s i 0 h) (simp (eq-eqb (get_or s i 0) c e))

pub before_end : (c : ℕ) (s : List ℕ) (i : ℕ) → length s ≤ i → before c (drop i s) ≡ []
unfolding before
before_end c s i h = rw (drop_of_length-le s h)

pub before_step : (c : ℕ) (s : List ℕ) (i : ℕ) → i < length s → (get_or s i 0 ≡ c → ⊥)
    → before c (drop i s) ≡ get_or s i 0 ∷ before c (drop (i + 1) s)
unfolding before
before_step c s i h e = rw (add-one, drop-cons s i 0 h) (simp (ne_eqb (get_or s i 0) c e))

pub before_short : (c : ℕ) (s : List ℕ) → length (before c s) ≤ length s
unfolding before
before_short c [] = omega arith
before_short c (b ∷ s) = go (eqb b c) (before_short c s)
  where
    go : (t : Bool) → length (before c s) ≤ length s → length (cond t [] (b ∷ before c s)) ≤ suc (length s)
    go true h = omega arith
    go false h = omega arith

-- it is a front of the text
pub before_take : (c : ℕ) (s : List ℕ) → take (length (before c s)) s ≡ before c s
unfolding before
before_take c [] = refl
before_take c (b ∷ s) = go (eqb b c) (before_take c s)
  where
    go : (t : Bool) → take (length (before c s)) s ≡ before c s → take (length (cond t [] (b ∷ before c s))) (b ∷ s) ≡ cond t [] (b ∷ before c s)
    go true h = refl
    go false h = rw h

-- the parts: the first one, and those behind its c
pub parts_last : (c : ℕ) (s : List ℕ) → length s ≤ length (before c s) → parts c s ≡ before c s ∷ []
unfolding split_by onto before
parts_last c [] h = refl
parts_last c (b ∷ s) h = go (eqb b c) h (parts_last c s)
  where
    go : (t : Bool) → suc (length s) ≤ length (cond t [] (b ∷ before c s)) → (length s ≤ length (before c s) → parts c s ≡ before c s ∷ [])
        → cond t ([] ∷ parts c s) (onto b (parts c s)) ≡ cond t [] (b ∷ before c s) ∷ []
    go true h ih = absurd (omega arith)
    go false h ih = rw (ih (omega arith))

pub parts_more : (c : ℕ) (s : List ℕ) → length (before c s) < length s → parts c s ≡ before c s ∷ parts c (drop (suc (length (before c s))) s)
unfolding split_by onto before
parts_more c [] h = absurd (omega arith)
parts_more c (b ∷ s) h = go (eqb b c) h (parts_more c s)
  where
    go : (t : Bool) → length (cond t [] (b ∷ before c s)) < suc (length s)
        → (length (before c s) < length s → parts c s ≡ before c s ∷ parts c (drop (suc (length (before c s))) s))
        → cond t ([] ∷ parts c s) (onto b (parts c s)) ≡ cond t [] (b ∷ before c s) ∷ parts c (drop (length (cond t [] (b ∷ before c s))) s)
    go true h ih = refl
    go false h ih = rw (ih (omega arith))

-- the parts behind the first
unfoldable pub later : ℕ → List ℕ → List (List ℕ)
later c s = cond (leb (length s) (length (before c s))) [] (parts c (drop (suc (length (before c s))) s))

pub parts_cons : (c : ℕ) (s : List ℕ) → parts c s ≡ before c s ∷ later c s
unfolding later
parts_cons c s = go (leb (length s) (length (before c s))) refl
  where
    go : (t : Bool) → leb (length s) (length (before c s)) ≡ t → parts c s ≡ before c s ∷ cond t [] (parts c (drop (suc (length (before c s))) s))
    go true e = parts_last c s (leb-true (length s) (length (before c s)) e)
    go false e = parts_more c s (leb-false (length s) (length (before c s)) e)

-- its first byte
pub before_first : (c : ℕ) (s : List ℕ) → 0 < length (before c s) → get_or (before c s) 0 0 ≡ get_or s 0 0
unfolding before
before_first c [] h = refl
before_first c (b ∷ s) h = go (eqb b c) h
  where
    go : (t : Bool) → 0 < length (cond t [] (b ∷ before c s)) → get_or (cond t [] (b ∷ before c s)) 0 0 ≡ b
    go true h = absurd (omega arith)
    go false h = refl

-- a digit more
pub number_grows : (k v d i : ℕ) → v < k ^ i → d < k → v * k + d < k ^ suc i
number_grows k v d i h l = rw pow-suc (omega (arith, mul-le-mul_right k h))

-- what has at most m digits
pub number_room : {k m v i : ℕ} → 0 < k → v < k ^ i → i ≤ m → v < k ^ m
number_room p h l = lt_of_lt_of_le h (pow-le-pow_right p l)

-- the code's `&s[..n]` has n bytes
pub take_count : (n : ℕ) (s : List ℕ) → n < length s → n ≡ length (take n s)
take_count n s h = sym (length-take-le n s (omega arith))

-- what is read of all, and its size
pub each_length : {A B : Type 0} (f : A → Option B) (xs : List A) (ds : List B) → each f xs ≡ Some ds → length ds ≡ length xs
unfolding each
each_length f [] ds e = let z : ds ≡ [] = cc in ap length z
each_length {A} {B} f (x ∷ xs) ds e = go (f x) (each f xs) (each_length f xs) e
  where
    go : (m : Option B) (n : Option (List B)) → ((l : List B) → n ≡ Some l → length l ≡ length xs) → prepend m n ≡ Some ds → length ds ≡ suc (length xs)
    go (Some d) (Some l) ih h = let z : ds ≡ d ∷ l = cc in ap length z ∙ ap suc (ih l refl)
    go (Some d) None ih h = let z : ◌≡◌ {A = ℕ} 0 1 = cc in absurd (omega arith)
    go None n ih h = let z : ◌≡◌ {A = ℕ} 0 1 = cc in absurd (omega arith)

-- digits below k make no number of more digits
pub each_small : {A : Type 0} (f : A → Option ℕ) (k : ℕ) → ((x : A) (d : ℕ) → f x ≡ Some d → d < k)
    → (xs : List A) (ds : List ℕ) → each f xs ≡ Some ds → (v i : ℕ) → v < k ^ i → number k v ds < k ^ (i + length ds)
unfolding each number
each_small f k low [] ds e v i h = let z : ds ≡ [] = cc in rw (z, add-zero) h
each_small {A} f k low (x ∷ xs) ds e v i h = go (f x) refl (each f xs) (each_small f k low xs) e
  where
    go : (m : Option ℕ) → f x ≡ m → (n : Option (List ℕ))
        → ((l : List ℕ) → n ≡ Some l → (v i : ℕ) → v < k ^ i → number k v l < k ^ (i + length l)) → prepend m n ≡ Some ds → number k v ds < k ^ (i + length ds)
    go (Some d) g (Some l) ih q =
        let z : ds ≡ d ∷ l = cc in
        let y : i + suc (length l) ≡ suc i + length l = omega arith in
        rw (z, y) (ih l refl (v * k + d) (suc i) (number_grows k v d i h (low x d g)))
    go (Some d) g None ih q = let z : ◌≡◌ {A = ℕ} 0 1 = cc in absurd (omega arith)
    go None g n ih q = let z : ◌≡◌ {A = ℕ} 0 1 = cc in absurd (omega arith)
