-- Laws of a case's answer.
use Rattle.std.proofs.Common.{◌≡◌, ℕ, ◌+◌, ◌-◌, ◌≤◌, ◌==◌, Bool, true, false, not, cond, eqb, nat_lt, Some, None, position, List, [], ◌∷◌, length, take, drop, refl, ◌∙◌, zero-add, arith, length-drop, drop_of_length-le, take_all, ne_eqb}
use Rattle.std.specs.List.{position_or_len}
use Rattle.std.proofs.lemmas.List.Recursion.{is_position_or_len}
use Rattle.std.proofs.lemmas.Bool.Decides.{nat_tests}
use Rattle.scan.specs.Lists.{take_while, end_while}
use Rattle.scan.specs.Search.{equal}
use Rattle.cases.specs.Cases.{not_tab, answer_of}

-- the first tab
tab_step : (x : ℕ) (s : List ℕ) → length (take_while not_tab (x ∷ s)) ≡ cond (x == 9) 0 (1 + length (take_while not_tab s))
unfolding take_while
tab_step x s = elim (x == 9) as (λ b. length (cond (not b) (x ∷ take_while not_tab s) []) ≡ cond b 0 (1 + length (take_while not_tab s))) [ true ↦ refl | false ↦ omega arith ]

first_tab : (s : List ℕ) → end_while not_tab s 0 ≡ position_or_len (λ b. b == 9) s
unfolding take_while
first_tab s = zero-add _ ∙ is_position_or_len (λ t. length (take_while not_tab t)) (λ b. b == 9) refl tab_step s

-- the answer: what is behind the tab, or nothing
module _ (s got : List ℕ) where
  pub answer_there : (tab : ℕ) (r : Bool) → Some tab ≡ position (λ b. b == 9) s → r ≡ equal (take (length s - (tab + 1)) (drop (tab + 1) s)) got → r ≡ equal (answer_of s) got
  unfolding answer_of
  answer_there tab r h e =
      let q : end_while not_tab s 0 ≡ tab = first_tab s ∙ go (nat_lt n (length s)) h in
      e ∙ rw (q, take_all (length s - (tab + 1)) (drop (tab + 1) s) (rw length-drop (omega arith)))
    where
      n : ℕ
      n = position_or_len (λ b. b == 9) s

      go : (b : Bool) → Some tab ≡ cond b (Some n) None → n ≡ tab
      go true k = cc
      go false k = cc

  pub answer_none : None ≡ position (λ b. b == 9) s → eqb (length got) 0 ≡ equal (answer_of s) got
  unfolding answer_of equal
  answer_none h =
      let k : length s ≤ end_while not_tab s 0 + 1 = rw (first_tab s) (go (nat_lt n (length s)) refl h) in
      rw (drop_of_length-le s k) (nothing got)
    where
      n : ℕ
      n = position_or_len (λ b. b == 9) s

      go : (b : Bool) → nat_lt n (length s) ≡ b → None ≡ cond b (Some n) None → length s ≤ n + 1
      go true e j = cc
      go false e j = grind (arith, nat_tests)

      nothing : (l : List ℕ) → eqb (length l) 0 ≡ equal [] l
      nothing [] = refl
      nothing (x ∷ l) = ne_eqb (length (x ∷ l)) 0 (λ z. omega arith)
