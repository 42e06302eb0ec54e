-- Laws of the names in a column header.
use Prim.Native.Nat.{ℕ, zero, suc, ◌+◌, ◌-◌, ◌≤◌, ◌<◌}
use mathlib.Core.Path.{◌≡◌, refl, sym, ap, ◌∙◌}
use mathlib.Core.Bool.{Bool, true, false, cond, not, ◌&&◌}
use mathlib.Core.List.{List, ◌∷◌}
use native.Mathlib.Omega.{arith}
use lib.ListN.{length, take, drop}
use borrow.Author.Tests.{eq-eqb, ne_eqb, not-true, not-false}
use Rattle.scan.specs.Ascii.{ascii}
use Rattle.scan.specs.Search.{equal}
use Rattle.scan.specs.Words.{words, next_word}
use Rattle.scan.proofs.WordLaws.{words_none, words_some}
use Rattle.columns.specs.Columns.{begins, words_begin, or_else, place_at, place_from, place, are_rising, rising, five, column_header, shift_left}
use Rattle.columns.specs.declared.Columns.{Columns}
use Rattle.std.specs.Prelude.{Option, Some, None}

-- a word that the search answered: where it lies
module _ (s : List ℕ) (i : ℕ) (w : Option (ℕ × ℕ)) (q : w ≡ next_word s i) (a e : ℕ) (f : w ≡ Some (a, e)) where
  pub word_order : a ≤ e
  word_order = omega (arith, (words_some s i a e (sym q ∙ f)).2)

  pub word_start : a ≤ length s
  word_start = omega (arith, (words_some s i a e (sym q ∙ f)).2, (words_some s i a e (sym q ∙ f)).3)

  pub word_end : e ≤ length s
  word_end = (words_some s i a e (sym q ∙ f)).3

  pub word_less : length s - e < length s - i
  word_less = omega (arith, (words_some s i a e (sym q ∙ f)).1, (words_some s i a e (sym q ∙ f)).2, (words_some s i a e (sym q ∙ f)).3)

-- the comparison with a name: its words from j on are to stand in the line from i on
pub name_starts : (name s : List ℕ) (at : ℕ) → words_begin name s at ≡ begins (words (drop 0 name)) (words (drop at s))
unfolding words_begin
name_starts name s at = refl

module _ (name s : List ℕ) (at i j : ℕ) (inv : words_begin name s at ≡ begins (words (drop j name)) (words (drop i s))) (w : Option (ℕ × ℕ)) (q : w ≡ next_word name j) where
  pub name_ends : w ≡ None → true ≡ words_begin name s at
  unfolding begins
  name_ends f = sym (inv ∙ ap (λ l. begins l (words (drop i s))) (words_none name j (sym q ∙ f)))

  module _ (a b : ℕ) (f : w ≡ Some (a, b)) (v : Option (ℕ × ℕ)) (p : v ≡ next_word s i) where
    more : words (drop j name) ≡ take (b - a) (drop a name) ∷ words (drop b name)
    more = (words_some name j a b (sym q ∙ f)).0

    pub line_ends : v ≡ None → false ≡ words_begin name s at
    unfolding begins
    line_ends g = sym (inv ∙ rw (more, words_none s i (sym p ∙ g)))

    module _ (c d : ℕ) (g : v ≡ Some (c, d)) (r : Bool) (e : r ≡ equal (take (d - c) (drop c s)) (take (b - a) (drop a name))) where
      both : words_begin name s at ≡ (r && begins (words (drop b name)) (words (drop d s)))
      unfolding begins
      both = inv ∙ rw (more, (words_some s i c d (sym p ∙ g)).0, e)

      pub word_differs : not r ≡ true → false ≡ words_begin name s at
      word_differs n = sym (both ∙ rw (not-true r n))

      pub word_agrees : not r ≡ false → words_begin name s at ≡ begins (words (drop b name)) (words (drop d s))
      word_agrees n = both ∙ rw (not-false r n)

pub ruleset name_laws = (word_order, word_start, word_end, word_less, name_starts, name_ends, line_ends, word_differs, word_agrees)

-- no more words than bytes: one more for the walk makes no difference
enough : (name s : List ℕ) (n i : ℕ) → length s ≤ i + n → place_from (suc n) name s i ≡ place_from n name s i
unfolding place_from
enough name s zero i h = go (next_word s i) refl
  where
    go : (w : Option (ℕ × ℕ)) → next_word s i ≡ w → place_at name s (place_from 0 name s) w ≡ None
    go None e = refl
    go (Some (a, b)) e = absurd (omega (arith, (words_some s i a b e).1, (words_some s i a b e).2, (words_some s i a b e).3))
enough name s (suc n) i h = go (λ j l. enough name s n j l) (next_word s i) refl
  where
    go : ((j : ℕ) → length s ≤ j + n → place_from (suc n) name s j ≡ place_from n name s j) → (w : Option (ℕ × ℕ)) → next_word s i ≡ w
        → place_at name s (place_from (suc n) name s) w ≡ place_at name s (place_from n name s) w
    go ih None e = refl
    go ih (Some (a, b)) e = rw (ih b (omega (arith, (words_some s i a b e).1, (words_some s i a b e).2)))

-- the walk over the line's words: `found` is what stands in front of i
or_none : (p : Option ℕ) → or_else p None ≡ p
or_none (Some i) = refl
or_none None = refl

or_or : (p q r : Option ℕ) → or_else (or_else p q) r ≡ or_else p (or_else q r)
or_or (Some i) q r = refl
or_or None q r = refl

pub walk_starts : (name s : List ℕ) → place name s ≡ or_else (place_from (suc (length s)) name s 0) None
unfolding place
walk_starts name s = sym (or_none (place_from (suc (length s)) name s 0))

module _ (name s : List ℕ) (at : ℕ) (found : Option ℕ) (inv : place name s ≡ or_else (place_from (suc (length s)) name s at) found) (w : Option (ℕ × ℕ)) (q : w ≡ next_word s at) where
  pub walk_ends : w ≡ None → found ≡ place name s
  unfolding place_from
  walk_ends f = sym (inv ∙ rw (← q, f))

  module _ (a e : ℕ) (f : w ≡ Some (a, e)) (r : Bool) (p : r ≡ words_begin name s a) where
    step : place_from (suc (length s)) name s at ≡ or_else (place_from (suc (length s)) name s e) (cond r (Some a) None)
    unfolding place_from
    step = rw (enough name s (length s) e (omega arith)) (rw (← q, f, p))

    pub named : r ≡ true → place name s ≡ or_else (place_from (suc (length s)) name s e) (Some a)
    named y = inv ∙ rw (step, y, or_or)

    pub not_named : r ≡ false → place name s ≡ or_else (place_from (suc (length s)) name s e) found
    not_named n = inv ∙ rw (step, n, or_or)

pub ruleset place_laws = (word_less, walk_starts, walk_ends, named, not_named)

-- the five names, one after the other
module _ (s : List ℕ) (p₁ : Option ℕ) (q₁ : p₁ ≡ place (ascii "Next Hop") s) where
  pub no_next_hop : p₁ ≡ None → None ≡ column_header s
  unfolding column_header
  no_next_hop f = rw (← q₁, f)

  module _ (n : ℕ) (f₁ : p₁ ≡ Some n) (p₂ : Option ℕ) (q₂ : p₂ ≡ place (ascii "Metric") s) where
    pub no_metric : p₂ ≡ None → None ≡ column_header s
    unfolding column_header
    no_metric f = rw (← q₁, f₁, ← q₂, f)

    module _ (m : ℕ) (f₂ : p₂ ≡ Some m) (p₃ : Option ℕ) (q₃ : p₃ ≡ place (ascii "LocPrf") s) where
      pub no_local_pref : p₃ ≡ None → None ≡ column_header s
      unfolding column_header
      no_local_pref f = rw (← q₁, f₁, ← q₂, f₂, ← q₃, f)

      module _ (l : ℕ) (f₃ : p₃ ≡ Some l) (p₄ : Option ℕ) (q₄ : p₄ ≡ place (ascii "Weight") s) where
        pub no_weight : p₄ ≡ None → None ≡ column_header s
        unfolding column_header
        no_weight f = rw (← q₁, f₁, ← q₂, f₂, ← q₃, f₃, ← q₄, f)

        module _ (w : ℕ) (f₄ : p₄ ≡ Some w) (p₅ : Option ℕ) (q₅ : p₅ ≡ place (ascii "Path") s) where
          pub no_path : p₅ ≡ None → None ≡ column_header s
          unfolding column_header
          no_path f = rw (← q₁, f₁, ← q₂, f₂, ← q₃, f₃, ← q₄, f₄, ← q₅, f)

          module _ (p : ℕ) (f₅ : p₅ ≡ Some p) where
            all_five : column_header s ≡ rising (record { next_hop = n; metric = m; local_pref = l; weight = w; path = p })
            unfolding column_header
            all_five = rw (← q₁, f₁, ← q₂, f₂, ← q₃, f₃, ← q₄, f₄, ← q₅, f₅)

            module _ (r : Bool) (g : r ≡ are_rising (record { next_hop = n; metric = m; local_pref = l; weight = w; path = p })) where
              pub rise : r ≡ true → Some (record { next_hop = n; metric = m; local_pref = l; weight = w; path = p }) ≡ column_header s
              rise t = sym (all_five ∙ rw (← g, t))

              pub no_rise : r ≡ false → None ≡ column_header s
              no_rise t = sym (all_five ∙ rw (← g, t))

pub ruleset header_laws = (no_next_hop, no_metric, no_local_pref, no_weight, no_path, rise, no_rise)

-- the shift
pub no_shift : (c : Columns) → c.next_hop ≡ 0 → None ≡ shift_left c
unfolding shift_left
no_shift c h = simp (eq-eqb c.next_hop 0 h)

module _ (c : Columns) (n m l w p : ℕ) where
  pub shifted : (c.next_hop ≡ 0 → ⊥) → n ≡ c.next_hop - 1 → m ≡ c.metric - 1 → l ≡ c.local_pref - 1 → w ≡ c.weight - 1 → p ≡ c.path - 1
      → Some (record { next_hop = n; metric = m; local_pref = l; weight = w; path = p }) ≡ shift_left c
  unfolding shift_left
  shifted h e₁ e₂ e₃ e₄ e₅ = rw (e₁, e₂, e₃, e₄, e₅) (simp (ne_eqb c.next_hop 0 h))

pub ruleset shift_laws = (no_shift, shifted)

-- columns that were found rise
found_rise : (x c : Columns) → rising x ≡ Some c → are_rising c ≡ true
found_rise x c = go (are_rising x) refl
  where
    go : (b : Bool) → are_rising x ≡ b → cond b (Some x) None ≡ Some c → are_rising c ≡ true
    go true h e = let z : x ≡ c = cc in ap are_rising (sym z) ∙ h
    go false h e = let z : ◌≡◌ {A = ℕ} 0 1 = cc in absurd (omega arith)

pub none_found : (A : Type 0) (c : Columns) → None ≡ Some c → A
none_found A c e = let z : ◌≡◌ {A = ℕ} 0 1 = cc in absurd (omega arith)

five_rise : (n m l w p : Option ℕ) (c : Columns) → five n m l w p ≡ Some c → are_rising c ≡ true
five_rise (Some n) (Some m) (Some l) (Some w) (Some p) c e = found_rise (record { next_hop = n; metric = m; local_pref = l; weight = w; path = p }) c e
five_rise (Some n) (Some m) (Some l) (Some w) None c e = none_found (are_rising c ≡ true) c e
five_rise (Some n) (Some m) (Some l) None p c e = none_found (are_rising c ≡ true) c e
five_rise (Some n) (Some m) None w p c e = none_found (are_rising c ≡ true) c e
five_rise (Some n) None l w p c e = none_found (are_rising c ≡ true) c e
five_rise None m l w p c e = none_found (are_rising c ≡ true) c e

pub header_rises : (s : List ℕ) (c : Columns) → column_header s ≡ Some c → are_rising c ≡ true
unfolding column_header
header_rises s c e = five_rise (place (ascii "Next Hop") s) (place (ascii "Metric") s) (place (ascii "LocPrf") s) (place (ascii "Weight") s) (place (ascii "Path") s) c e
