-- Laws of the words of a line.
use Rattle.std.specs.Prelude.{Option, Some, None, unwrap_or}
use Prim.Native.Nat.{ℕ, ◌-◌, ◌≤◌, ◌<◌}
use mathlib.Core.Path.{◌≡◌, refl, ap, ◌∙◌}
use mathlib.Core.Bool.{Bool, true, false, cond}
use mathlib.Core.List.{List, [], ◌∷◌}
use native.Mathlib.Omega.{arith}
use lib.ListN.{length, take, drop, length-drop}
use lib.Dec.{ltb}
use borrow.Author.Tests.{lt-ltb, le-ltb, ltb-true, ltb-false}
use Rattle.scan.specs.Lists.{take_while, end_while}
use Rattle.scan.specs.Words.{is_gap, not_gap, words, next_word}
use Rattle.scan.proofs.ListLaws.{take_while_take, take_while_length, drop_endWhile, no_token_at, token_at_lem, token_size}

-- what the code finds: the gap's end a, and the word's end e
module _ (s : List ℕ) (i a : ℕ) (q : a ≡ end_while is_gap s i) where
  pub here : (e : ℕ) → a < length s → e ≡ end_while not_gap s a → Some (a, e) ≡ next_word s i
  unfolding next_word
  here e h r = rw (← q, lt-ltb a (length s) h, r)

  pub nowhere : length s ≤ a → None ≡ next_word s i
  unfolding next_word
  nowhere h = rw (← q, le-ltb a (length s) h)

-- the walk: the words from the place i on are none, or the one that is found and the words from its
-- end on
pub words_none : (s : List ℕ) (i : ℕ) → next_word s i ≡ None → words (drop i s) ≡ []
unfolding next_word
words_none s i e = go (ltb (end_while is_gap s i) (length s)) refl e
  where
    go : (z : Bool) → ltb (end_while is_gap s i) (length s) ≡ z → cond {A = Option (ℕ × ℕ)} z (Some (end_while is_gap s i, end_while not_gap s (end_while is_gap s i))) None ≡ None
        → words (drop i s) ≡ []
    go true f e = let z : ◌≡◌ {A = ℕ} 0 1 = cc in absurd (omega arith)
    go false f e = no_token_at is_gap s i (ltb-false _ _ f)

pub words_some : (s : List ℕ) (i a e : ℕ) → next_word s i ≡ Some (a, e)
    → (words (drop i s) ≡ take (e - a) (drop a s) ∷ words (drop e s)) × (i ≤ a) × (a < e) × (e ≤ length s)
unfolding next_word
words_some s i a e f = go (ltb (end_while is_gap s i) (length s)) refl f
  where
    go : (z : Bool) → ltb (end_while is_gap s i) (length s) ≡ z → cond {A = Option (ℕ × ℕ)} z (Some (end_while is_gap s i, end_while not_gap s (end_while is_gap s i))) None ≡ Some (a, e)
        → (words (drop i s) ≡ take (e - a) (drop a s) ∷ words (drop e s)) × (i ≤ a) × (a < e) × (e ≤ length s)
    go false t f = let z : ◌≡◌ {A = ℕ} 0 1 = cc in absurd (omega arith)
    go true t f =
        let h : end_while is_gap s i < length s = ltb-true _ _ t in
        let p : end_while is_gap s i ≡ a = ap (λ (w : Option (ℕ × ℕ)). (unwrap_or w (0, 0)).0) f in
        let r : end_while not_gap s (end_while is_gap s i) ≡ e = ap (λ (w : Option (ℕ × ℕ)). (unwrap_or w (0, 0)).1) f in
        let q : end_while not_gap s a ≡ e = rw p at r in
        let size : e - a ≡ length (take_while not_gap (drop a s)) = omega arith in (
          rw p at (token_at_lem is_gap s i 0 h) ∙ rw (size, take_while_take, ← q, drop_endWhile),
          omega arith,
          omega (arith, rw p at (token_size is_gap s i 0 h)),
          omega (arith, take_while_length not_gap (drop a s), length-drop a s),
        )
