-- Laws of what lines yield.
use Prim.Native.Nat.{ℕ, ◌+◌}
use mathlib.Core.Path.{◌≡◌, refl, sym, ap, ap₂, ◌∙◌}
use mathlib.Core.Bool.{true, false}
use mathlib.Core.List.{List, [], ◌∷◌, ◌++◌, map, flatten, sum, append_assoc}
use native.Mathlib.Omega.{arith}
use lib.ListN.{length, length-append}
use Rattle.plain_reader.specs.Lists.{Each}
use Rattle.plain_reader.specs.Rules.{Rules, Remembered, nothing, invalid, valid, Line, unreadable, passed, wrapped, route}
use Rattle.plain_reader.specs.Elements.{bears_prefix, routes, after_line, after, blanks_ahead, under, yielded, by_part, inherited}

module _ {P R : Type 0} where
  abbrev NoPrefixFact : List (Line P R) → Type 0
  NoPrefixFact l = Each (λ (x : Line P R). bears_prefix x ≡ false) l

  -- a prefix-bearing line replaces what was remembered, whatever it was; no other line does
  bearing_replaces : (m n : Remembered P) (x : Line P R) → bears_prefix x ≡ true → after_line m x ≡ after_line n x
  bearing_replaces m n unreadable h = let z : ◌≡◌ {A = ℕ} 0 1 = cc in absurd (omega arith)
  bearing_replaces m n passed h = let z : ◌≡◌ {A = ℕ} 0 1 = cc in absurd (omega arith)
  bearing_replaces m n (wrapped p) h = refl
  bearing_replaces m n (route nothing r) h = let z : ◌≡◌ {A = ℕ} 0 1 = cc in absurd (omega arith)
  bearing_replaces m n (route invalid r) h = refl
  bearing_replaces m n (route (valid p) r) h = refl

  others_keep : (m : Remembered P) (x : Line P R) → bears_prefix x ≡ false → after_line m x ≡ m
  others_keep m unreadable h = refl
  others_keep m passed h = refl
  others_keep m (wrapped p) h = let z : ◌≡◌ {A = ℕ} 0 1 = cc in absurd (omega arith)
  others_keep m (route nothing r) h = refl
  others_keep m (route invalid r) h = let z : ◌≡◌ {A = ℕ} 0 1 = cc in absurd (omega arith)
  others_keep m (route (valid p) r) h = let z : ◌≡◌ {A = ℕ} 0 1 = cc in absurd (omega arith)

  -- lines leave what the last prefix-bearing one left, or what was remembered before
  pub after_none : (m : Remembered P) (l : List (Line P R)) → NoPrefixFact l → after m l ≡ m
  unfolding after
  after_none m [] h = refl
  after_none m (x ∷ l) h = after_none (after_line m x) l h.1 ∙ others_keep m x h.0

  pub after_last : (m : Remembered P) (a : List (Line P R)) (x : Line P R) (b : List (Line P R)) → bears_prefix x ≡ true → NoPrefixFact b → after m (a ++ x ∷ b) ≡ after_line nothing x
  unfolding after
  after_last m [] x b h n = after_none (after_line m x) b n ∙ bearing_replaces m nothing x h
  after_last m (y ∷ a) x b h n = after_last (after_line m y) a x b h n

module _ (L : Rules) where
  -- lines behind lines
  pub yielded_append : (m : Remembered L.Prefix) (a b : List (Line L.Prefix L.Route)) → yielded L m (a ++ b) ≡ yielded L m a ++ yielded L (after m a) b
  unfolding yielded after
  yielded_append m [] b = refl
  yielded_append m (x ∷ a) b =
      let n = after_line m x in
      ap (λ (l : List L.Element). under L n (routes x) ++ l) (yielded_append n a b) ∙ sym (append_assoc (under L n (routes x)) (yielded L n a) (yielded L (after n a) b))

  -- under an invalid prefix lines yield what they yield under none
  invalid_as_nothing : (l : List (Line L.Prefix L.Route)) → yielded L invalid l ≡ yielded L nothing l
  unfolding yielded
  invalid_as_nothing [] = refl
  invalid_as_nothing (unreadable ∷ l) = invalid_as_nothing l
  invalid_as_nothing (passed ∷ l) = invalid_as_nothing l
  invalid_as_nothing (wrapped p ∷ l) = refl
  invalid_as_nothing (route nothing r ∷ l) = invalid_as_nothing l
  invalid_as_nothing (route invalid r ∷ l) = refl
  invalid_as_nothing (route (valid p) r ∷ l) = refl

  -- a valid one adds the blank-prefix routes ahead
  valid_adds : (p : L.Prefix) (l : List (Line L.Prefix L.Route)) → yielded L (valid p) l ≡ map (L.yield p) (blanks_ahead l) ++ yielded L nothing l
  unfolding yielded blanks_ahead
  valid_adds p [] = refl
  valid_adds p (unreadable ∷ l) = valid_adds p l
  valid_adds p (passed ∷ l) = valid_adds p l
  valid_adds p (wrapped q ∷ l) = refl
  valid_adds p (route nothing r ∷ l) = ap (λ (s : List L.Element). L.yield p r ∷ s) (valid_adds p l)
  valid_adds p (route invalid r ∷ l) = refl
  valid_adds p (route (valid q) r ∷ l) = refl

  -- what lines yield under an inherited prefix: the blank-prefix routes ahead, then what they yield by themselves
  pub inherits : (m : Remembered L.Prefix) (l : List (Line L.Prefix L.Route)) → yielded L m l ≡ under L m (blanks_ahead l) ++ yielded L nothing l
  inherits nothing l = refl
  inherits invalid l = invalid_as_nothing l
  inherits (valid p) l = valid_adds p l

  -- what the parts yield, put together, is what the joined lines yield
  pub flatten_by_part : (m : Remembered L.Prefix) (ls : List (List (Line L.Prefix L.Route))) → flatten (by_part L m ls) ≡ yielded L m (flatten ls)
  unfolding by_part flatten yielded
  flatten_by_part m [] = refl
  flatten_by_part m (l ∷ ls) = ap₂ (λ (a b : List L.Element). a ++ b) (sym (inherits m l)) (flatten_by_part (after m l) ls) ∙ sym (yielded_append m l (flatten ls))

  -- and so many elements
  pub count_by_part : (m : Remembered L.Prefix) (ls : List (List (Line L.Prefix L.Route)))
      → length (flatten (by_part L m ls)) ≡ sum ◌+◌ 0 (map (λ (l : List (Line L.Prefix L.Route)). length (yielded L nothing l)) ls) + inherited L m ls
  unfolding by_part flatten sum inherited
  count_by_part m [] = refl
  count_by_part m (l ∷ ls) =
      omega (arith, count_by_part (after m l) ls, length-append (under L m (blanks_ahead l) ++ yielded L nothing l) (flatten (by_part L (after m l) ls)), length-append (under L m (blanks_ahead l)) (yielded L nothing l))
