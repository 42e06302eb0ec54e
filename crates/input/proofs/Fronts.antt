-- The line at the front of the bytes at hand, when more bytes may come behind them.
use Prim.Native.Nat.{ℕ, zero, suc, ◌+◌, ◌-◌, ◌≤◌, ◌<◌}
use mathlib.Core.Path.{◌≡◌, refl, sym, ap, ◌∙◌}
use mathlib.Core.Bool.{Bool, true, false, cond, false≢true, ◌||◌}
use mathlib.Core.List.{List, [], ◌∷◌, ◌++◌, head_d, append-nil}
use native.Mathlib.Omega.{arith}
use lib.ListN.{length, get_or, take, drop, length-drop, drop_of_length-le}
use lib.Seq.{drop-drop, drop-append-le, get_or-drop}
use borrow.Author.Tests.{eq-eqb, eqb-true}
use Rattle.scan.specs.Lists.{onto, any_of}
use Rattle.scan.specs.Lines.{is_feed, lines, line_end, LineAt}
use Rattle.scan.proofs.LineLaws.{line_at, line_end_inside, line_end_after}
use Rattle.input.specs.Input.{Fronts}
use Rattle.input.specs.declared.Front.TheVariants as front

-- the first line of a text
abbrev pub first : List ℕ → List ℕ
first s = head_d (lines s) []

pub first_cons : (b : ℕ) (s : List ℕ) → first (b ∷ s) ≡ cond (is_feed b) (b ∷ []) (b ∷ first s)
unfolding lines head_d onto
first_cons b s = go (is_feed b) (lines s)
  where
    go : (z : Bool) (l : List (List ℕ)) → head_d (cond z ((b ∷ []) ∷ l) (onto b l)) [] ≡ cond z (b ∷ []) (b ∷ head_d l [])
    go true l = refl
    go false [] = refl
    go false (w ∷ l) = refl

-- it only grows with what comes later
first_grows : (a b : List ℕ) → length (first a) ≤ length (first (a ++ b))
unfolding lines head_d
first_grows [] b = omega arith
first_grows (x ∷ a) b = rw (first_cons x a, first_cons x (a ++ b)) (go (is_feed x) (first_grows a b))
  where
    go : (z : Bool) → length (first a) ≤ length (first (a ++ b)) → length (cond z (x ∷ []) (x ∷ first a)) ≤ length (cond z (x ∷ []) (x ∷ first (a ++ b)))
    go true h = omega arith
    go false h = omega arith

-- a line feed is behind what is no line feed
module _ (x : ℕ) (other : is_feed x ≡ false) (a : List ℕ) where
  feed_behind : (k : ℕ) → get_or (x ∷ a) k 0 ≡ 10 → get_or a (k - 1) 0 ≡ 10
  feed_behind zero h = absurd (false≢true (sym other ∙ eq-eqb x 10 h))
  feed_behind (suc k) h = let z : suc k - 1 ≡ k = omega arith in rw z h

-- a first line that ends in a line feed stays what it is
first_whole : (a b : List ℕ) → get_or a (length (first a) - 1) 0 ≡ 10 → lines (a ++ b) ≡ first a ∷ lines (drop (length (first a)) a ++ b)
unfolding lines head_d onto
first_whole [] b h = absurd (omega arith)
first_whole (x ∷ a) b h = rw (first_cons x a) (go (is_feed x) refl (rw (first_cons x a) at h) (first_whole a b))
  where
    go : (z : Bool) → is_feed x ≡ z → get_or (x ∷ a) (length (cond z (x ∷ []) (x ∷ first a)) - 1) 0 ≡ 10
        → (get_or a (length (first a) - 1) 0 ≡ 10 → lines (a ++ b) ≡ first a ∷ lines (drop (length (first a)) a ++ b))
        → cond z ((x ∷ []) ∷ lines (a ++ b)) (onto x (lines (a ++ b)))
        ≡ cond z (x ∷ []) (x ∷ first a) ∷ lines (drop (length (cond z (x ∷ []) (x ∷ first a))) (x ∷ a) ++ b)
    go true e g ih = refl
    go false e g ih =
        let k : suc (length (first a)) - 1 ≡ length (first a) = omega arith in
        rw (ih (feed_behind x e a (length (first a)) (rw k at g)))

first_some : (x : ℕ) (a : List ℕ) → 0 < length (first (x ∷ a))
first_some x a = rw (first_cons x a) (go (is_feed x))
  where
    go : (z : Bool) → 0 < length (cond z (x ∷ []) (x ∷ first a))
    go true = omega arith
    go false = omega arith

feed_before : (x : ℕ) (a : List ℕ) (k : ℕ) → 0 < k → get_or a (k - 1) 0 ≡ 10 → get_or (x ∷ a) (suc k - 1) 0 ≡ 10
feed_before x a zero p h = absurd (omega arith)
feed_before x a (suc k) p h =
    let y : suc k - 1 ≡ k = omega arith in
    let z : suc (suc k) - 1 ≡ suc k = omega arith in
    rw z (rw y at h)

-- where the first line does not end in one, there is none
first_partial : (a : List ℕ) → 0 < length a → (get_or a (length (first a) - 1) 0 ≡ 10 → ⊥) → (any_of is_feed a ≡ false) × (length (first a) ≡ length a)
unfolding lines head_d onto any_of
first_partial [] p n = absurd (omega arith)
first_partial (x ∷ []) p n = rw (first_cons x []) (go (is_feed x) refl)
  where
    go : (z : Bool) → is_feed x ≡ z → (z || false ≡ false) × (length (cond z (x ∷ []) (x ∷ [])) ≡ 1)
    go true e = absurd (n (rw (first_cons x [], e) (eqb-true x 10 e)))
    go false e = (refl, refl)
first_partial (x ∷ y ∷ a) p n = rw (first_cons x (y ∷ a)) (go (is_feed x) refl (first_partial (y ∷ a) (omega arith)))
  where
    go : (z : Bool) → is_feed x ≡ z
        → ((get_or (y ∷ a) (length (first (y ∷ a)) - 1) 0 ≡ 10 → ⊥) → (any_of is_feed (y ∷ a) ≡ false) × (length (first (y ∷ a)) ≡ length (y ∷ a)))
        → (z || any_of is_feed (y ∷ a) ≡ false) × (length (cond z (x ∷ []) (x ∷ first (y ∷ a))) ≡ suc (length (y ∷ a)))
    go true e ih = absurd (n (rw (first_cons x (y ∷ a), e) (eqb-true x 10 e)))
    go false e ih =
        let w = ih (λ h. n (rw (first_cons x (y ∷ a), e) (feed_before x (y ∷ a) (length (first (y ∷ a))) (first_some y a) h))) in
        (w.0, ap suc w.1)

-- a line is one line
one_byte : (x : ℕ) → lines (x ∷ []) ≡ (x ∷ []) ∷ []
unfolding lines onto
one_byte x = go (is_feed x)
  where
    go : (z : Bool) → cond z ((x ∷ []) ∷ []) ((x ∷ []) ∷ []) ≡ (x ∷ []) ∷ []
    go true = refl
    go false = refl

pub first_single : (x : ℕ) (a : List ℕ) → lines (first (x ∷ a)) ≡ first (x ∷ a) ∷ []
unfolding lines head_d onto
first_single x [] = rw (first_cons x []) (go (is_feed x))
  where
    go : (z : Bool) → lines (cond z (x ∷ []) (x ∷ [])) ≡ cond z (x ∷ []) (x ∷ []) ∷ []
    go true = one_byte x
    go false = one_byte x
first_single x (y ∷ a) = rw (first_cons x (y ∷ a)) (go (is_feed x) refl (first_single y a))
  where
    go : (z : Bool) → is_feed x ≡ z → lines (first (y ∷ a)) ≡ first (y ∷ a) ∷ []
        → lines (cond z (x ∷ []) (x ∷ first (y ∷ a))) ≡ cond z (x ∷ []) (x ∷ first (y ∷ a)) ∷ []
    go true e h = one_byte x
    go false e h = rw (e, h)

-- a line that another follows ends in a line feed, and stays a line in front of any text
pub first_then : (a : List ℕ) → length (first a) < length a → (b : List ℕ) → lines (first a ++ b) ≡ first a ∷ lines b
unfolding lines head_d onto
first_then [] h b = absurd (omega arith)
first_then (x ∷ a) h b = rw (first_cons x a) (go (is_feed x) refl (rw (first_cons x a) at h) (λ l. first_then a l b))
  where
    go : (z : Bool) → is_feed x ≡ z → length (cond z (x ∷ []) (x ∷ first a)) < length (x ∷ a) → (length (first a) < length a → lines (first a ++ b) ≡ first a ∷ lines b)
        → lines (cond z (x ∷ []) (x ∷ first a) ++ b) ≡ cond z (x ∷ []) (x ∷ first a) ∷ lines b
    go true e l ih = rw e
    go false e l ih = rw (e, ih (omega arith))

-- the answers
module _ (s : List ℕ) (at : ℕ) where
  pub none_front : length s ≤ at → (ended : Bool) → ended ≡ true → Fronts s at ended front.Nothing
  none_front h ended e = (e, h)

  pub no_more : length s ≤ at → (ended : Bool) → ended ≡ false → Fronts s at ended front.Starved
  unfolding any_of
  no_more h ended e = (e, rw (drop_of_length-le s h), λ i. omega arith)

  module _ (inside : at < length s) (e : ℕ) (here : e ≡ line_end s at) where
    pub line_some : 1 ≤ e
    line_some = omega (arith, line_end_after s at inside)

    pub line_last : e - 1 < length s
    line_last = omega (arith, line_end_after s at inside, line_end_inside s at (omega arith))

    here_first : e ≡ at + length (first (drop at s))
    unfolding line_end
    here_first = here

    last_byte : e - 1 ≡ at + (length (first (drop at s)) - 1)
    last_byte = omega (arith, here_first, line_end_after s at inside)

    line_here : take (e - at) (drop at s) ≡ first (drop at s)
    unfolding head_d
    line_here = let l : LineAt s at e = rw here (line_at s at inside) in sym (ap (λ (l : List (List ℕ)). head_d l []) l)

    pub long_front : (ended : Bool) → 65536 < e → Fronts s at ended front.TooLong
    unfolding line_end
    long_front ended h =
        (inside, λ later. rw (drop-append-le at s later (omega arith)) (omega (arith, here_first, first_grows (drop at s) later)))

    pub ended_front : (ended : Bool) → e ≤ 65536 → ended ≡ true → Fronts s at ended (front.Line e)
    ended_front ended h t = (
      omega (arith, line_end_after s at inside),
      omega (arith, line_end_inside s at (omega arith)),
      h,
      λ later none. rw (none t, append-nil, append-nil) (rw here (line_at s at inside)),
    )

    pub feed_front : (ended : Bool) → e ≤ 65536 → get_or s (e - 1) 0 ≡ 10 → Fronts s at ended (front.Line e)
    feed_front ended h f = (
      omega (arith, line_end_after s at inside),
      omega (arith, line_end_inside s at (omega arith)),
      h,
      λ later none. rw (drop-append-le at s later (omega arith), line_here) (first_whole (drop at s) later (rw (get_or-drop, ← last_byte) f) ∙ rw (drop-drop, ← here_first)),
    )

    pub part_front : (ended : Bool) → e ≤ 65536 → ended ≡ false → (get_or s (e - 1) 0 ≡ 10 → ⊥) → Fronts s at ended front.Starved
    part_front ended h t n =
        let w = first_partial (drop at s) (rw length-drop (omega arith)) (λ f. n (rw (last_byte, ← get_or-drop) f)) in
        (t, w.0, λ i. omega (arith, here_first, w.1, length-drop at s))
