-- Laws of byte strings compared and searched for.
use Rattle.std.specs.Prelude.{Option, Some, None, MatchOption}
use Rattle.std.specs.Bool.{Decides, one_answer}
use Prim.Native.Nat.{ℕ, zero, suc, ◌+◌, ◌≤◌, ◌<◌}
use mathlib.Core.Path.{◌≡◌, refl, sym, ap, ◌∙◌}
use mathlib.Core.Bool.{Bool, true, false, cond, ◌&&◌}
use mathlib.Core.List.{List, [], ◌∷◌, ◌++◌}
use native.Mathlib.Omega.{arith}
use native.Mathlib.Nat.{add-zero}
use lib.ListN.{length, take, drop, length-append, take-append-drop}
use lib.Seq.{drop-drop, drop-nil, take_at}
use lib.Dec.{eqb, leb}
use borrow.Author.Tests.{eq-eqb, eqb-true, le-leb}
use Rattle.std.specs.Cmp.Lexicographic.{pointwise}
use Rattle.scan.specs.Search.{equal, starts_with, find_from, find_in}

-- equal says that two byte strings are one and the same
pub equal_refl : (a : List ℕ) → equal a a ≡ true
unfolding equal
equal_refl [] = refl
equal_refl (x ∷ a) = rw (eq-eqb x x refl, equal_refl a)

pub equal_path : (a b : List ℕ) → equal a b ≡ true → a ≡ b
unfolding equal
equal_path [] [] e = refl
equal_path [] (y ∷ b) e = let z : ◌≡◌ {A = ℕ} 0 1 = cc in absurd (omega arith)
equal_path (x ∷ a) [] e = let z : ◌≡◌ {A = ℕ} 0 1 = cc in absurd (omega arith)
equal_path (x ∷ a) (y ∷ b) e = go (eqb x y) refl e (λ f. equal_path a b f)
  where
    go : (z : Bool) → eqb x y ≡ z → z && equal a b ≡ true → (equal a b ≡ true → a ≡ b) → x ∷ a ≡ y ∷ b
    go true f e ih = rw (eqb-true x y f, ih e)
    go false f e ih = let z : ◌≡◌ {A = ℕ} 0 1 = cc in absurd (omega arith)

-- it is what `==` of two slices says
pub equal_slices : (a b : List ℕ) → pointwise eqb a b ≡ equal a b
unfolding equal
equal_slices [] [] = refl
equal_slices [] (y ∷ b) = refl
equal_slices (x ∷ a) [] = refl
equal_slices (x ∷ a) (y ∷ b) = rw (equal_slices a b)

equal_swapped : (a b : List ℕ) → equal a b ≡ equal b a
equal_swapped a b = go (equal a b) (equal b a) refl refl
  where
    go : (y z : Bool) → equal a b ≡ y → equal b a ≡ z → y ≡ z
    go true true e f = refl
    go false false e f = refl
    go true false e f = sym (equal_refl b) ∙ ap (equal b) (sym (equal_path a b e)) ∙ f
    go false true e f = sym (sym (equal_refl a) ∙ ap (equal a) (sym (equal_path b a f)) ∙ e)

pub starts_with_slices : (s p : List ℕ) → pointwise eqb p (take (length p) s) ≡ starts_with s p
starts_with_slices s p = equal_slices p (take (length p) s) ∙ equal_swapped p (take (length p) s)

-- s starts with p exactly where s is p and something behind it
pub starts_with_append : (p t : List ℕ) → starts_with (p ++ t) p ≡ true
starts_with_append p t = rw (take_at p t (length p) refl) (equal_refl p)

pub starts_with_split : (s p : List ℕ) → starts_with s p ≡ true → s ≡ p ++ drop (length p) s
starts_with_split s p e = sym (take-append-drop (length p) s) ∙ rw (equal_path (take (length p) s) p e)

pub starts_with_length : (s p : List ℕ) → starts_with s p ≡ true → length p ≤ length s
starts_with_length s p e = omega (arith, simp length-append at (ap length (starts_with_split s p e)))

-- a text starts with none that is longer
pub too_short : (s p : List ℕ) → length s < length p → starts_with s p ≡ false
too_short s p h = go (starts_with s p) refl
  where
    go : (z : Bool) → starts_with s p ≡ z → z ≡ false
    go true e = absurd (omega (arith, starts_with_length s p e))
    go false e = refl

-- an answer that tells whether the front of s is p
pub starts_with_told : (s p : List ℕ) (r : Bool) → Decides r (take (length p) s ≡ p) → r ≡ starts_with s p
starts_with_told s p r d = one_answer r (starts_with s p) d (equal_path (take (length p) s) p, λ e. rw e (equal_refl p))

-- the first place at which p stands, as a search that goes from place to place finds it
first_from : (i : ℕ) (s p : List ℕ) (n : ℕ) → n ≤ length s → starts_with (drop n s) p ≡ true
    → ((j : ℕ) → j < n → starts_with (drop j s) p ≡ false) → find_from i s p ≡ Some (i + n)
unfolding find_from
first_from i [] p zero h y b = rw (y, add-zero)
first_from i [] p (suc n) h y b = absurd (omega arith)
first_from i (x ∷ s) p zero h y b = rw (y, add-zero)
first_from i (x ∷ s) p (suc n) h y b =
    let k : i + 1 + n ≡ i + suc n = omega arith in
    rw (b 0 (omega arith), first_from (i + 1) s p n (omega arith) y (λ j l. b (suc j) (omega arith)), k)

nowhere_from : (i : ℕ) (s p : List ℕ) → ((j : ℕ) → j < length s + 1 → starts_with (drop j s) p ≡ false) → find_from i s p ≡ None
unfolding find_from
nowhere_from i [] p b = rw (b 0 (omega arith))
nowhere_from i (x ∷ s) p b =
    rw (b 0 (omega arith), nowhere_from (i + 1) s p (λ j l. b (suc j) (omega arith)))

abbrev stands_at : List ℕ → List ℕ → ℕ → Bool
stands_at s p k = leb k (length s) && starts_with (drop k s) p

pub search_found : (s p : List ℕ) (r : Option ℕ)
    → MatchOption r ((k : ℕ) → 0 ≤ k → k < length s + 1 → stands_at s p k ≡ false) (λ i. (0 ≤ i) × (i < length s + 1) × (stands_at s p i ≡ true) × ((k : ℕ) → 0 ≤ k → k < i → stands_at s p k ≡ false))
    → r ≡ find_in s p
search_found s p None h = sym (nowhere_from 0 s p (λ j l. rw (le-leb j (length s) (omega arith)) at (h j (omega arith) l)))
search_found s p (Some i) h =
    let l : i < length s + 1 = h.1 in
    let z : 0 + i ≡ i = omega arith in
    let y : starts_with (drop i s) p ≡ true = rw (le-leb i (length s) (omega arith)) at h.2 in
    rw z at (sym (first_from 0 s p i (omega arith) y (λ j m. rw (le-leb j (length s) (omega arith)) at (h.3 j (omega arith) m))))

-- p stands at the place i of s, and at no earlier one
pub record First (s p : List ℕ) (i : ℕ) : Type 0 where
  pub inside : i + length p ≤ length s
  pub at : starts_with (drop i s) p ≡ true
  pub before : (j : ℕ) → j < i → starts_with (drop j s) p ≡ false

first_place_lem : (s p : List ℕ) → starts_with s p ≡ true → First s p 0
first_place_lem s p f = record { inside = omega (arith, starts_with_length s p f); at = f; before = λ j l. absurd (omega arith) }

found_from : (i : ℕ) (s p : List ℕ) (k : ℕ) → find_from i s p ≡ Some k → (n : ℕ) × (k ≡ i + n) × First s p n
unfolding find_from
found_from i [] p k e = go (starts_with [] p) refl e
  where
    go : (z : Bool) → starts_with [] p ≡ z → cond z (Some i) None ≡ Some k → (n : ℕ) × (k ≡ i + n) × First [] p n
    go true f e = let h : i ≡ k = cc in (0, omega arith, first_place_lem [] p f)
    go false f e = let z : ◌≡◌ {A = ℕ} 0 1 = cc in absurd (omega arith)
found_from i (x ∷ s) p k e = go (starts_with (x ∷ s) p) refl e (λ f. found_from (i + 1) s p k f)
  where
    earlier : (n : ℕ) → starts_with (x ∷ s) p ≡ false → ((j : ℕ) → j < n → starts_with (drop j s) p ≡ false)
        → (j : ℕ) → j < suc n → starts_with (drop j (x ∷ s)) p ≡ false
    earlier n f b zero l = f
    earlier n f b (suc j) l = b j (omega arith)

    go : (z : Bool) → starts_with (x ∷ s) p ≡ z → cond z (Some i) (find_from (i + 1) s p) ≡ Some k
        → (find_from (i + 1) s p ≡ Some k → (n : ℕ) × (k ≡ i + 1 + n) × First s p n) → (n : ℕ) × (k ≡ i + n) × First (x ∷ s) p n
    go true f e ih = let h : i ≡ k = cc in (0, omega arith, first_place_lem (x ∷ s) p f)
    go false f e ih =
        let (n, h, w) = ih e in
        (suc n, omega arith, record { inside = omega (arith, w.inside); at = w.at; before = earlier n f w.before })

none_from : (i : ℕ) (s p : List ℕ) → find_from i s p ≡ None → (j : ℕ) → starts_with (drop j s) p ≡ false
unfolding find_from
none_from i [] p e j = rw drop-nil (go (starts_with [] p) e)
  where
    go : (z : Bool) → cond z (Some i) None ≡ None → z ≡ false
    go true e = let z : ◌≡◌ {A = ℕ} 0 1 = cc in absurd (omega arith)
    go false e = refl
none_from i (x ∷ s) p e j = go (starts_with (x ∷ s) p) refl e (λ f j. none_from (i + 1) s p f j) j
  where
    go : (z : Bool) → starts_with (x ∷ s) p ≡ z → cond z (Some i) (find_from (i + 1) s p) ≡ None
        → (find_from (i + 1) s p ≡ None → (j : ℕ) → starts_with (drop j s) p ≡ false) → (j : ℕ) → starts_with (drop j (x ∷ s)) p ≡ false
    go true f e ih j = let z : ◌≡◌ {A = ℕ} 0 1 = cc in absurd (omega arith)
    go false f e ih zero = f
    go false f e ih (suc j) = ih e j

-- what is found: the pattern's first place
pub find_first : (s p : List ℕ) (k : ℕ) → find_in s p ≡ Some k → First s p k
find_first s p k e = let w : (n : ℕ) × (k ≡ 0 + n) × First s p n = found_from 0 s p k e in let h : w.0 ≡ k = omega arith in rw h at w.2

-- there the text is what is before it, the pattern, and what is behind it
pub find_split : (s p : List ℕ) (k : ℕ) → find_in s p ≡ Some k → s ≡ take k s ++ (p ++ drop (k + length p) s)
find_split s p k e =
    sym (take-append-drop k s) ∙ ap (λ (t : List ℕ). take k s ++ t) (starts_with_split (drop k s) p (find_first s p k e).at ∙ rw drop-drop)

-- nothing is found: the pattern stands at no place
pub find_none : (s p : List ℕ) → find_in s p ≡ None → (j : ℕ) → starts_with (drop j s) p ≡ false
find_none s p e = none_from 0 s p e
