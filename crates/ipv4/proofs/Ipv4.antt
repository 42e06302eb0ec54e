-- Laws of octets, and of reading four of them.
use mathlib.Core.Path.{◌≡◌, refl, sym, ap, ◌∙◌}
use mathlib.Core.List.{List, [], ◌∷◌}
use mathlib.Core.Bool.{Bool, true, false, cond, not, ◌&&◌, and-false}
use Rattle.std.specs.Prelude.{Option, Some, None}
use Rattle.std.proofs.lemmas.Option.{some_pair_parts}
use Prim.Native.Nat.{ℕ, zero, suc, ◌+◌, ◌-◌, ◌*◌, ◌^◌, ◌≤◌, ◌<◌}
use native.Mathlib.Numerals.{add-one}
use native.Mathlib.Nat.{zero-add}
use native.Mathlib.Omega.{arith}
use lib.ListN.{length, get_or, drop}
use mir.Syntax.{w32}
use mir.Val.{Fits}
use lib.Dec.{eqb, leb, ltb}
use borrow.Author.Tests.{le-ltb, lt-ltb, lt-leb, le-leb, eq-eqb, ne_eqb, ltb-true, eqb-true, leb-true, leb-false}
use Rattle.decimal.specs.Decimal.{is_digit, behind, digits, below}
use Rattle.decimal.proofs.Laws.{too_big}
use Rattle.ipv4.specs.Parts.{parts, before, prepend, each, number}
use Rattle.ipv4.specs.Ipv4.{leading_zero, octet, four, ipv4, placed, first_octet}
use Rattle.ipv4.proofs.Parts.{before_short, each_small, number_grows, number_room, before_here, before_end, before_step, before_first, parts_last, parts_more, parts_cons, later}

-- the digits of a part that has some
digits_some : (p : List ℕ) → (length p ≡ 0 → ⊥) → digits p ≡ behind 0 p
unfolding digits
digits_some [] h = absurd (h refl)
digits_some (b ∷ p) h = refl

digits_none : (p : List ℕ) → below 256 (behind 0 p) ≡ None → below 256 (digits p) ≡ None
unfolding digits
digits_none [] h = refl
digits_none (b ∷ p) h = h

no_octet : (p : List ℕ) → below 256 (digits p) ≡ None → octet p ≡ None
unfolding octet
no_octet p h = rw h (go (leb (length p) 3 && not (leading_zero p)))
  where
    go : (t : Bool) → cond {A = Option ℕ} t None None ≡ None
    go true = refl
    go false = refl

-- the digits read: their octet
module _ (t : List ℕ) (n v : ℕ) (hl : length (before 46 t) ≡ n) (hd : behind 0 (before 46 t) ≡ Some v) (hv : v ≤ 255) where
  pub octet_empty : n ≡ 0 → None ≡ first_octet t
  unfolding digits
  octet_empty h = rw (no_octet (before 46 t) (go (before 46 t) (omega arith)))
    where
      go : (q : List ℕ) → length q ≡ 0 → below 256 (digits q) ≡ None
      go [] e = refl
      go (b ∷ q) e = absurd (omega arith)

  pub octet_long : 3 < n → None ≡ first_octet t
  unfolding octet
  octet_long h = simp (hl, lt-leb n 3 h)

  pub octet_count : (n ≡ 1 → ⊥) → (2 ≤ n → n ≤ 3 → ⊥) → None ≡ first_octet t
  octet_count k l = go (leb n 3) refl
    where
      go : (u : Bool) → leb n 3 ≡ u → None ≡ first_octet t
      go true e = let m : n ≤ 3 = leb-true n 3 e in octet_empty (few n m k l)
        where
          few : (n : ℕ) → n ≤ 3 → (n ≡ 1 → ⊥) → (2 ≤ n → n ≤ 3 → ⊥) → n ≡ 0
          few zero m k l = refl
          few (suc zero) m k l = absurd (k refl)
          few (suc (suc n)) m k l = absurd (l (omega arith) m)
      go false e = octet_long (leb-false n 3 e)

  pub octet_zero : 1 < n → get_or t 0 0 ≡ 48 → None ≡ first_octet t
  unfolding octet
  octet_zero h e = simp (hl, lt-ltb 1 n h, before_first 46 t (omega arith), eq-eqb (get_or t 0 0) 48 e, and-false)

  value : (n ≡ 0 → ⊥) → below 256 (digits (before 46 t)) ≡ Some v
  value h = simp (digits_some (before 46 t) (λ e. h (omega arith)), hd, lt-ltb v 256 (omega arith))

  pub octet_one : (n ≡ 0 → ⊥) → n ≤ 3 → n ≤ 1 → Some (v, n) ≡ first_octet t
  unfolding octet
  octet_one h l m = simp (value h, hl, le-leb n 3 l, le-ltb 1 n m)

  pub octet_some : (n ≡ 0 → ⊥) → n ≤ 3 → 1 < n → (get_or t 0 0 ≡ 48 → ⊥) → Some (v, n) ≡ first_octet t
  unfolding octet
  octet_some h l m e = simp (value h, hl, le-leb n 3 l, lt-ltb 1 n m, before_first 46 t (omega arith), ne_eqb (get_or t 0 0) 48 e)

-- the digits so far make v, and the rest of the part stands from i on
module _ (t : List ℕ) (i v : ℕ) (hl : length (before 46 t) ≡ i + length (before 46 (drop i t))) (hd : behind 0 (before 46 t) ≡ behind v (before 46 (drop i t))) where
  -- at the part's end
  module _ (e : before 46 (drop i t) ≡ []) where
    end_length : length (before 46 t) ≡ i
    end_length = omega (arith, ap length e)

    end_value : behind 0 (before 46 t) ≡ Some v
    unfolding behind
    end_value = hd ∙ ap (behind v) e

  pub dot_length : i < length t → get_or t i 0 ≡ 46 → length (before 46 t) ≡ i
  dot_length h b = end_length (before_here 46 t i h b)

  pub dot_value : i < length t → get_or t i 0 ≡ 46 → behind 0 (before 46 t) ≡ Some v
  dot_value h b = end_value (before_here 46 t i h b)

  pub last_length : length t ≤ i → i ≤ length t → length (before 46 t) ≡ length t
  last_length h l = omega (arith, end_length (before_end 46 t i h))

  pub last_value : length t ≤ i → behind 0 (before 46 t) ≡ Some v
  last_value h = end_value (before_end 46 t i h)

  -- one byte more
  module _ (h : i < length t) (b : get_or t i 0 ≡ 46 → ⊥) where
    hd' : behind 0 (before 46 t) ≡ cond (is_digit (get_or t i 0)) (behind (v * 10 + (get_or t i 0 - 48)) (before 46 (drop (i + 1) t))) None
    unfolding behind
    hd' = hd ∙ ap (behind v) (before_step 46 t i h b)

    pub more_length : length (before 46 t) ≡ i + 1 + length (before 46 (drop (i + 1) t))
    more_length = omega (arith, ap length (before_step 46 t i h b))

    refused : below 256 (behind 0 (before 46 t)) ≡ None → None ≡ first_octet t
    refused e = rw (no_octet (before 46 t) (digits_none (before 46 t) e))

    pub no_digit : is_digit (get_or t i 0) ≡ false → None ≡ first_octet t
    no_digit l = refused (simp (hd', l))

    module _ (l : is_digit (get_or t i 0) ≡ true) where
      pub more_value : behind 0 (before 46 t) ≡ behind (v * 10 + (get_or t i 0 - 48)) (before 46 (drop (i + 1) t))
      more_value = simp (hd', l)

      pub over : 255 < v * 10 + (get_or t i 0 - 48) → None ≡ first_octet t
      over g = refused (simp (more_value, too_big 256 (v * 10 + (get_or t i 0 - 48)) (before 46 (drop (i + 1) t)) g))

-- the octets os are still to come behind k octets that make a
abbrev pub four_from : ℕ → ℕ → Option (List ℕ) → Option ℕ
four_from k a (Some os) = cond (eqb (k + length os) 4) (Some (number 256 a os)) None
four_from k a None = None

pub four_start : (s : List ℕ) → ipv4 s ≡ four_from 0 0 (each octet (parts 46 s))
unfolding ipv4
four_start s = go (each octet (parts 46 s))
  where
    go : (m : Option (List ℕ)) → four m ≡ four_from 0 0 m
    go (Some os) = rw zero-add
    go None = refl

-- an octet is below 256
pub octet_small : (p : List ℕ) (v : ℕ) → octet p ≡ Some v → v < 256
unfolding octet
octet_small p v = go (leb (length p) 3 && not (leading_zero p)) (digits p)
  where
    low : (n : ℕ) (u : Bool) → ltb n 256 ≡ u → cond {A = Option ℕ} u (Some n) None ≡ Some v → v < 256
    low n true e f = let z : n ≡ v = cc in rw z at (ltb-true n 256 e)
    low n false e f = let z : ◌≡◌ {A = ℕ} 0 1 = cc in absurd (omega arith)

    go : (t : Bool) (m : Option ℕ) → cond t (below 256 m) None ≡ Some v → v < 256
    go true (Some n) e = low n (ltb n 256) refl e
    go true None e = let z : ◌≡◌ {A = ℕ} 0 1 = cc in absurd (omega arith)
    go false m e = let z : ◌≡◌ {A = ℕ} 0 1 = cc in absurd (omega arith)

-- what the octet at a place says of the part there
placed_none : (m : Option ℕ) (e : ℕ) → placed m e ≡ None → m ≡ None
placed_none None e h = refl
placed_none (Some v) e h = let z : ◌≡◌ {A = ℕ} 0 1 = cc in absurd (omega arith)

placed_some : (m : Option ℕ) (e v n : ℕ) → placed m e ≡ Some (v, n) → (m ≡ Some v) × (e ≡ n)
placed_some None e v n h = let z : ◌≡◌ {A = ℕ} 0 1 = cc in absurd (omega arith)
placed_some (Some w) e v n h = let z = some_pair_parts w v e n h in (ap Some z.0, z.1)

-- k octets that make a are read, and t is to be read for the others; r is the octet at its front
module _ (s t : List ℕ) (k a : ℕ) (hi : ipv4 s ≡ four_from k a (each octet (parts 46 t))) (r : Option (ℕ × ℕ)) (hr : r ≡ first_octet t) where
  pub stop : r ≡ None → None ≡ ipv4 s
  unfolding each
  stop e = rw (hi, parts_cons 46 t, placed_none (octet (before 46 t)) (length (before 46 t)) (sym hr ∙ e))

  module _ (v n : ℕ) (hv : r ≡ Some (v, n)) where
    here : (octet (before 46 t) ≡ Some v) × (length (before 46 t) ≡ n)
    here = placed_some (octet (before 46 t)) (length (before 46 t)) v n (sym hr ∙ hv)

    pub inside : n ≤ length t
    inside = omega (arith, here.1, before_short 46 t)

    pub value_small : v < 256
    value_small = octet_small (before 46 t) v here.0

    last : length t ≤ n → ipv4 s ≡ cond (eqb (k + 1) 4) (Some (a * 256 + v)) None
    unfolding each number
    last h = rw (hi, parts_last 46 t (omega (arith, here.1)), here.0)

    pub too_few : length t ≤ n → k < 3 → None ≡ ipv4 s
    too_few h l = simp (last h, ne_eqb (k + 1) 4 (λ z. omega arith))

    pub whole : length t ≤ n → k ≤ 3 → 3 ≤ k → Some (a * 256 + v) ≡ ipv4 s
    whole h l m = simp (last h, eq-eqb (k + 1) 4 (omega arith))

    pub next : n < length t → ipv4 s ≡ four_from (k + 1) (a * 256 + v) (each octet (parts 46 (drop (n + 1) t)))
    unfolding each number
    next h =
        let z : suc (length (before 46 t)) ≡ n + 1 = omega (arith, here.1) in
        hi ∙ rw (parts_more 46 t (omega (arith, here.1)), here.0, z) (go (each octet (parts 46 (drop (n + 1) t))))
      where
        go : (m : Option (List ℕ)) → four_from k a (prepend (Some v) m) ≡ four_from (k + 1) (a * 256 + v) m
        go (Some os) = let z : k + suc (length os) ≡ k + 1 + length os = omega arith in rw z
        go None = refl

    pub too_many : n < length t → 3 ≤ k → None ≡ ipv4 s
    unfolding each
    too_many h l = rw (next h, parts_cons 46 (drop (n + 1) t)) (go (octet (before 46 (drop (n + 1) t))) (each octet (later 46 (drop (n + 1) t))))
      where
        go : (m : Option ℕ) (n : Option (List ℕ)) → None ≡ four_from (k + 1) (a * 256 + v) (prepend m n)
        go (Some o) (Some os) = simp (ne_eqb (k + 1 + suc (length os)) 4 (λ z. omega arith))
        go (Some o) None = refl
        go None n = refl

-- there is room for one octet more behind at most three
module _ (a k : ℕ) (h : a < 256 ^ k) (l : k ≤ 3) where
  small : a < 256 ^ 3
  small = number_room (omega arith) h l

  pub room : Fits w32 (a * 256)
  room = record { fits = omega (arith, small) }

  pub room_for : (v : ℕ) → v < 256 → Fits w32 (a * 256 + v)
  room_for v m = record { fits = omega (arith, small) }

  pub octets_grow : (v : ℕ) → v < 256 → a * 256 + v < 256 ^ (k + 1)
  octets_grow v m = rw add-one (number_grows 256 a v k h m)

-- an address is below 2 ^ 32
pub ipv4_small : (s : List ℕ) (n : ℕ) → ipv4 s ≡ Some n → n < 2 ^ 32
unfolding ipv4
ipv4_small s n = go (each octet (parts 46 s)) refl
  where
    size : (os : List ℕ) → each octet (parts 46 s) ≡ Some os → (t : Bool) → eqb (length os) 4 ≡ t → cond t (Some (number 256 0 os)) None ≡ Some n → n < 2 ^ 32
    size os e true f h =
        let y : number 256 0 os ≡ n = cc in
        let x : number 256 0 os < 256 ^ (0 + length os) = each_small octet 256 octet_small (parts 46 s) os e 0 0 (omega arith) in
        rw (y, zero-add, eqb-true (length os) 4 f) at x
    size os e false f h = let z : ◌≡◌ {A = ℕ} 0 1 = cc in absurd (omega arith)

    go : (m : Option (List ℕ)) → each octet (parts 46 s) ≡ m → four m ≡ Some n → n < 2 ^ 32
    go (Some os) e h = size os e (eqb (length os) 4) refl h
    go None e h = let z : ◌≡◌ {A = ℕ} 0 1 = cc in absurd (omega arith)
