-- Laws of groups, and of what stands around "::".
use mathlib.Core.Path.{◌≡◌, refl, sym, ap, ◌∙◌}
use mathlib.Core.List.{List, [], ◌∷◌}
use mathlib.Core.Bool.{Bool, true, false, cond, ◌&&◌, and-false}
use Rattle.std.specs.Prelude.{Option, Some, None}
use Prim.Native.Nat.{ℕ, suc, ◌+◌, ◌-◌, ◌*◌, ◌^◌, ◌≤◌, ◌<◌}
use native.Mathlib.Numerals.{add-one}
use native.Mathlib.Nat.{zero-add, add-zero}
use native.Mathlib.Omega.{arith}
use lib.ListN.{length, get_or, take, drop, drop_of_length-le}
use lib.Seq.{drop-cons}
use mir.Syntax.{w16}
use mir.Val.{Fits}
use lib.Dec.{eqb, leb, ltb}
use mathlib.Core.Logic.{◌⊎◌}
use Rattle.std.proofs.Common.{inl, inr}
use borrow.Author.Tests.{le-ltb, lt-ltb, lt-leb, le-leb, leb-true, ltb-true, ltb-false}
use Rattle.scan.specs.Search.{equal, find_from, find_in}
use Rattle.decimal.specs.Decimal.{below}
use Rattle.ipv4.specs.Parts.{prepend, each, number}
use Rattle.ipv6.specs.Ipv6.{hex_digit, value_from, group, gap}
use Rattle.ipv6.specs.Groups.{shifted, push, push_all, with_groups}
use Rattle.ipv6.specs.declared.Groups.{Groups}
use Rattle.ipv4.proofs.Parts.{number_grows, number_room}

-- the digits, and what is none
module _ (b : ℕ) where
  pub from_0 : 48 ≤ b → b ≤ 57 → Some (b - 48) ≡ hex_digit b
  unfolding hex_digit
  from_0 h l = simp (le-leb 48 b h, le-leb b 57 l)

  pub from_A : 65 ≤ b → b ≤ 70 → Some (b - 65 + 10) ≡ hex_digit b
  unfolding hex_digit
  from_A h l = let z : b - 65 + 10 ≡ b - 55 = omega arith in simp (lt-leb b 57 (omega arith), le-leb 48 b (omega arith), le-leb 65 b h, le-leb b 70 l) (ap Some z)

  pub from_a : 97 ≤ b → b ≤ 102 → Some (b - 97 + 10) ≡ hex_digit b
  unfolding hex_digit
  from_a h l =
      let z : b - 97 + 10 ≡ b - 87 = omega arith in
      simp (le-leb 48 b (omega arith), lt-leb b 57 (omega arith), le-leb 65 b (omega arith), lt-leb b 70 (omega arith), le-leb 97 b h, le-leb b 102 l) (ap Some z)

  pub no_hex_digit : (b < 48) ⊎ (57 < b) → (b < 65) ⊎ (70 < b) → (b < 97) ⊎ (102 < b) → None ≡ hex_digit b
  unfolding hex_digit
  no_hex_digit p q r = rw (out 48 57 p, out 65 70 q, out 97 102 r)
    where
      out : (l h : ℕ) → (b < l) ⊎ (h < b) → leb l b && leb b h ≡ false
      out l h (inl k) = rw (lt-leb l b k)
      out l h (inr k) = rw (lt-leb b h k, and-false)

-- a digit is below 16
pub digit_small : (b x : ℕ) → hex_digit b ≡ Some x → x < 16
unfolding hex_digit
digit_small b x = go (leb 48 b) (leb b 57) (leb 65 b) (leb b 70) (leb 97 b) (leb b 102) refl refl refl
  where
    no : None ≡ Some x → x < 16
    no e = let z : ◌≡◌ {A = ℕ} 0 1 = cc in absurd (omega arith)

    yes : (y : ℕ) → Some y ≡ Some x → y < 16 → x < 16
    yes y e l = let z : y ≡ x = cc in rw z at l

    go : (t₀ t₁ t₂ t₃ t₄ t₅ : Bool) → leb b 57 ≡ t₁ → leb b 70 ≡ t₃ → leb b 102 ≡ t₅
        → cond (t₀ && t₁) (Some (b - 48)) (cond (t₂ && t₃) (Some (b - 55)) (cond (t₄ && t₅) (Some (b - 87)) None)) ≡ Some x → x < 16
    go true true t₂ t₃ t₄ t₅ e f g h = yes (b - 48) h (omega (arith, leb-true b 57 e))
    go true false true true t₄ t₅ e f g h = yes (b - 55) h (omega (arith, leb-true b 70 f))
    go true false true false true true e f g h = yes (b - 87) h (omega (arith, leb-true b 102 g))
    go true false true false true false e f g h = no h
    go true false true false false t₅ e f g h = no h
    go true false false t₃ true true e f g h = yes (b - 87) h (omega (arith, leb-true b 102 g))
    go true false false t₃ true false e f g h = no h
    go true false false t₃ false t₅ e f g h = no h
    go false t₁ true true t₄ t₅ e f g h = yes (b - 55) h (omega (arith, leb-true b 70 f))
    go false t₁ true false true true e f g h = yes (b - 87) h (omega (arith, leb-true b 102 g))
    go false t₁ true false true false e f g h = no h
    go false t₁ true false false t₅ e f g h = no h
    go false t₁ false t₃ true true e f g h = yes (b - 87) h (omega (arith, leb-true b 102 g))
    go false t₁ false t₃ true false e f g h = no h
    go false t₁ false t₃ false t₅ e f g h = no h

pub group_empty : (p : List ℕ) → length p ≡ 0 → None ≡ group p
unfolding group
group_empty p h = simp (lt-leb 1 (length p) (omega arith))

pub group_long : (p : List ℕ) → 4 < length p → None ≡ group p
unfolding group
group_long p h = simp (le-leb 1 (length p) (omega arith), lt-leb (length p) 4 h)

pub group_from : (p : List ℕ) → value_from 16 0 (each hex_digit p) ≡ value_from 16 0 (each hex_digit (drop 0 p))
group_from p = refl

-- the digits so far make v, and the others stand from i on
module _ (p : List ℕ) (some_digit : length p ≡ 0 → ⊥) (few : length p ≤ 4) (i v : ℕ)
    (hv : value_from 16 0 (each hex_digit p) ≡ value_from 16 v (each hex_digit (drop i p))) where
  as_value : group p ≡ value_from 16 v (each hex_digit (drop i p))
  unfolding group
  as_value = simp (le-leb 1 (length p) (lt_of_ne some_digit), le-leb (length p) 4 few, hv)
    where
      lt_of_ne : (length p ≡ 0 → ⊥) → 1 ≤ length p
      lt_of_ne h = omega arith

  pub group_whole : length p ≤ i → Some v ≡ group p
  unfolding each number
  group_whole h = rw (as_value, drop_of_length-le p h)

  module _ (h : i < length p) (x : Option ℕ) (hx : x ≡ hex_digit (get_or p i 0)) where
    pub group_stop : x ≡ None → None ≡ group p
    unfolding each
    group_stop l = rw (as_value, drop-cons p i 0 h, ← hx, l)

    pub group_more : (d : ℕ) → x ≡ Some d → value_from 16 0 (each hex_digit p) ≡ value_from 16 (v * 16 + d) (each hex_digit (drop (i + 1) p))
    unfolding each number
    group_more d l = hv ∙ rw (add-one, drop-cons p i 0 h, ← hx, l) (go (each hex_digit (drop (suc i) p)))
      where
        go : (m : Option (List ℕ)) → value_from 16 v (prepend (Some d) m) ≡ value_from 16 (v * 16 + d) m
        go (Some ds) = refl
        go None = refl

-- at most four digits fit
module _ (p : List ℕ) (few : length p ≤ 4) (i v : ℕ) (h : v < 16 ^ i) where
  pub hex_grows : (d : ℕ) → d < 16 → v * 16 + d < 16 ^ (i + 1)
  hex_grows d l = rw add-one (number_grows 16 v d i h l)

  module _ (more : i < length p) where
    pub hex_room : Fits w16 (v * 16)
    hex_room = record { fits = let z : v < 16 ^ 3 = number_room {m = 3} (omega arith) h (omega arith) in omega arith }

    pub hex_room_for : (d : ℕ) → d < 16 → Fits w16 (v * 16 + d)
    hex_room_for d l = record { fits = number_room {m = 4} (omega arith) (hex_grows d l) (omega arith) }

-- one group more
module _ (r : Groups) (g : ℕ) where
  -- it goes to the upper half while there are fewer than four
  pub pushed_upper : r.n < 4 → record { n = r.n + 1; upper = shifted r.upper g; lower = r.lower } ≡ push r g
  unfolding push
  pushed_upper h = simp (lt-ltb r.n 4 h)

  pub pushed_lower : 4 ≤ r.n → record { n = r.n + 1; upper = r.upper; lower = shifted r.lower g } ≡ push r g
  unfolding push
  pushed_lower h = simp (le-ltb r.n 4 h)

  pub push_full : 7 < r.n → None ≡ with_groups r (Some (g ∷ []))
  push_full h = simp (lt-leb (r.n + 1) 8 (omega arith))

  module _ (room : r.n ≤ 7) where
    pub push_some : Some (push r g) ≡ with_groups r (Some (g ∷ []))
    unfolding push_all
    push_some = simp (le-leb (r.n + 1) 8 (omega arith))

    pub push_upper : r.n < 4 → Some (record { n = r.n + 1; upper = shifted r.upper g; lower = r.lower }) ≡ with_groups r (Some (g ∷ []))
    push_upper h = ap (λ (x : Groups). Some x) (pushed_upper h) ∙ push_some

    pub push_lower : 4 ≤ r.n → Some (record { n = r.n + 1; upper = r.upper; lower = shifted r.lower g }) ≡ with_groups r (Some (g ∷ []))
    push_lower h = ap (λ (x : Groups). Some x) (pushed_lower h) ∙ push_some

-- the first "::" is where the search finds it
one_colon : (s : List ℕ) → equal (take 1 s) (58 ∷ []) ≡ eqb (get_or s 0 0) 58
unfolding equal
one_colon [] = refl
one_colon (c ∷ s) = go (eqb c 58)
  where
    go : (t : Bool) → t && true ≡ t
    go true = refl
    go false = refl

found_gap : (i : ℕ) (s : List ℕ) → find_from i s (58 ∷ 58 ∷ []) ≡ cond (ltb (gap s) (length s)) (Some (i + gap s)) None
unfolding find_from gap equal
found_gap i [] = refl
found_gap i (b ∷ s) = rw (one_colon s) (go (eqb b 58 && eqb (get_or s 0 0) 58) (found_gap (i + 1) s))
  where
    next : (t : Bool) → ltb (gap s) (length s) ≡ t → cond (ltb (gap s) (length s)) (Some (i + 1 + gap s)) None ≡ cond (ltb (suc (gap s)) (suc (length s))) (Some (i + suc (gap s))) None
    next true e = let z : i + 1 + gap s ≡ i + suc (gap s) = omega arith in rw (e, lt-ltb (suc (gap s)) (suc (length s)) (omega (arith, ltb-true (gap s) (length s) e)), z)
    next false e = rw (e, le-ltb (suc (gap s)) (suc (length s)) (omega (arith, ltb-false (gap s) (length s) e)))

    go : (t : Bool) → find_from (i + 1) s (58 ∷ 58 ∷ []) ≡ cond (ltb (gap s) (length s)) (Some (i + 1 + gap s)) None
        → cond t (Some i) (find_from (i + 1) s (58 ∷ 58 ∷ [])) ≡ cond (ltb (cond t 0 (suc (gap s))) (suc (length s))) (Some (i + cond t 0 (suc (gap s)))) None
    go true h = rw (lt-ltb 0 (suc (length s)) (omega arith), add-zero)
    go false h = h ∙ next (ltb (gap s) (length s)) refl

pub gap_found : (s : List ℕ) (r : Option ℕ) → r ≡ find_in s (58 ∷ 58 ∷ []) → r ≡ below (length s) (Some (gap s))
gap_found s r e = e ∙ found_gap 0 s ∙ rw (zero-add (gap s))

-- "::" is two bytes
two_bytes : (s : List ℕ) → gap s < length s → gap s + 2 ≤ length s
unfolding gap
two_bytes [] h = absurd (omega arith)
two_bytes (b ∷ s) h = go (eqb b 58) (eqb (get_or s 0 0) 58) refl h (two_bytes s)
  where
    some_byte : (t : List ℕ) → eqb (get_or t 0 0) 58 ≡ true → 1 ≤ length t
    some_byte [] e = let z : ◌≡◌ {A = ℕ} 0 1 = cc in absurd (omega arith)
    some_byte (c ∷ t) e = omega arith

    go : (t u : Bool) → eqb (get_or s 0 0) 58 ≡ u → cond (t && u) 0 (suc (gap s)) < suc (length s) → (gap s < length s → gap s + 2 ≤ length s)
        → cond (t && u) 0 (suc (gap s)) + 2 ≤ suc (length s)
    go true true e l ih = omega (arith, some_byte s e)
    go true false e l ih = omega (arith, ih (omega arith))
    go false u e l ih = omega (arith, ih (omega arith))

module _ (s : List ℕ) (p : Option ℕ) (hp : p ≡ below (length s) (Some (gap s))) where
  pub gap_nowhere : p ≡ None → length s ≤ gap s
  gap_nowhere e = go (ltb (gap s) (length s)) refl (sym e ∙ hp)
    where
      go : (t : Bool) → ltb (gap s) (length s) ≡ t → None ≡ cond t (Some (gap s)) None → length s ≤ gap s
      go true f g = let z : ◌≡◌ {A = ℕ} 0 1 = cc in absurd (omega arith)
      go false f g = ltb-false (gap s) (length s) f

  module _ (k : ℕ) (here : p ≡ Some k) where
    pub gap_there : (k ≡ gap s) × (gap s < length s)
    gap_there = go (ltb (gap s) (length s)) refl (sym here ∙ hp)
      where
        go : (t : Bool) → ltb (gap s) (length s) ≡ t → Some k ≡ cond t (Some (gap s)) None → (k ≡ gap s) × (gap s < length s)
        go true f g = (cc, ltb-true (gap s) (length s) f)
        go false f g = let z : ◌≡◌ {A = ℕ} 0 1 = cc in absurd (omega arith)

    pub gap_room : k + 2 ≤ length s
    gap_room = omega (arith, gap_there.0, two_bytes s gap_there.1)
