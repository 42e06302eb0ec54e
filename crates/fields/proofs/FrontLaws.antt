-- Laws of an address at the front of a text: octet by octet, and behind each but the last a '.'.
use Rattle.std.specs.Prelude.{Option, Some, None}
use Rattle.std.proofs.Common.{◌≡◌, ℕ, suc, ◌+◌, ◌-◌, ◌*◌, ◌<◌, ◌≤◌, Bool, true, false, cond, not, ◌&&◌, ltb, leb, List, [], ◌∷◌, ◌++◌, length, get_or, take, sym, refl, ap, ◌∙◌, append_assoc, add-one, arith, take-append-drop, take-suc, take-take, w64, Fits, ne_eqb}
use lib.Seq.{slice}
use Rattle.scan.specs.Lists.{split_by, onto}
use Rattle.utf8.proofs.TestLaws.{upto}
use Rattle.decimal.specs.Decimal.{is_digit, behind, digits, below}
use Rattle.decimal.proofs.Laws.{none_some, digit_low}
use Rattle.ipv4.specs.Parts.{parts, prepend, each, number}
use Rattle.ipv4.specs.Ipv4.{leading_zero, octet, ipv4}
use Rattle.ipv4.proofs.Ipv4.{four_from, four_start, octet_small, room, room_for, octets_grow}
use Rattle.fields.specs.Fronts.{DigitsAround, OctetAt, AddressTo}

-- a number that passes further tests is a number
pub passed : (t : Bool) (k n : ℕ) (m : Option ℕ) → cond t (below k m) None ≡ Some n → m ≡ Some n
passed true k n (Some v) e = go (ltb v k) e
  where
    go : (t : Bool) → cond t (Some v) None ≡ Some n → Some v ≡ Some n
    go true f = f
    go false f = absurd (none_some f)
passed true k n None e = absurd (none_some e)
passed false k n m e = absurd (none_some e)

pub digits_behind : (n : ℕ) (p : List ℕ) → digits p ≡ Some n → behind 0 p ≡ Some n
unfolding digits
digits_behind n [] e = absurd (none_some e)
digits_behind n (b ∷ p) e = e

octet_digits : (p : List ℕ) (v : ℕ) → octet p ≡ Some v → behind 0 p ≡ Some v
unfolding octet
octet_digits p v e = digits_behind v p (passed (leb (length p) 3 && not (leading_zero p)) 256 v (digits p) e)

-- the first of some digits, and those behind it
pub digit_more : (w n b : ℕ) (p : List ℕ) → behind w (b ∷ p) ≡ Some n → (48 ≤ b) × (behind (w * 10 + (b - 48)) p ≡ Some n)
unfolding behind
digit_more w n b p e = go (is_digit b) refl e
  where
    go : (d : Bool) → is_digit b ≡ d → cond d (behind (w * 10 + (b - 48)) p) None ≡ Some n → (48 ≤ b) × (behind (w * 10 + (b - 48)) p ≡ Some n)
    go true f g = (digit_low b f, g)
    go false f g = absurd (none_some g)

-- digits have no '.' among them
dotted : (t : List ℕ) (w n : ℕ) (p : List ℕ) → behind w p ≡ Some n → parts 46 (p ++ (46 ∷ t)) ≡ p ∷ parts 46 t
unfolding split_by onto
dotted t w n [] e = refl
dotted t w n (b ∷ p) e =
    let m = digit_more w n b p e in
    rw (ne_eqb b 46 (λ z. omega (arith, m.0)), dotted t (w * 10 + (b - 48)) n p m.1)

undotted : (w n : ℕ) (p : List ℕ) → behind w p ≡ Some n → parts 46 p ≡ p ∷ []
unfolding split_by onto
undotted w n [] e = refl
undotted w n (b ∷ p) e =
    let m = digit_more w n b p e in
    rw (ne_eqb b 46 (λ z. omega (arith, m.0)), undotted (w * 10 + (b - 48)) n p m.1)

-- k octets that make a, each with its '.', stand in s up to `at`
pub record OctetsTo (s : List ℕ) (at k a : ℕ) : Type 0 where
  pub first : 0 < k → is_digit (get_or s 0 0) ≡ true
  pub value : (t : List ℕ) → ipv4 (take at s ++ t) ≡ four_from k a (each octet (parts 46 t))

pub octets_start : (s : List ℕ) → OctetsTo s 0 0 0
octets_start s = record { first = λ h. absurd (omega arith); value = λ t. four_start t }

-- up to a place behind another
upto_slice : (s : List ℕ) (a e : ℕ) → a ≤ e → take e s ≡ take a s ++ slice a e s
upto_slice s a e h = sym (take-append-drop a (take e s)) ∙ ap (λ l. l ++ slice a e s) (take-take a e s h)

-- the octet v is behind them
module _ (s : List ℕ) (at k : ℕ) (h : 16 ≤ length s) (n : at ≤ k * 4) (v e : ℕ) (here : OctetAt s at e v) where
  pub octet_below : v < 256
  octet_below = octet_small (slice at e s) v here.value

  pub dot_inside : k < 3 → e < length s
  dot_inside l = omega (arith, here.short)

  pub dot_fits : k < 3 → Fits w64 (e + 1)
  dot_fits l = record { fits = omega (arith, here.short) }

  pub dot_near : e + 1 ≤ (k + 1) * 4
  dot_near = omega (arith, here.short)

  module _ (a : ℕ) (o : OctetsTo s at k a) where
    starts : is_digit (get_or s 0 0) ≡ true
    starts =
        upto k 0
        (λ z. let y : at ≡ 0 = omega arith in rw y at here.around.first)
        (λ z. o.first z)

    step : (m : Option (List ℕ)) → four_from k a (prepend (Some v) m) ≡ four_from (k + 1) (a * 256 + v) m
    unfolding number
    step (Some os) = let z : k + suc (length os) ≡ k + 1 + length os = omega arith in rw z
    step None = refl

    pub octets_more : k < 3 → get_or s e 0 ≡ 46 → OctetsTo s (e + 1) (k + 1) (a * 256 + v)
    unfolding each
    octets_more l d =
        record {
          first = λ z. starts;
          value = λ t.
              ap (λ x. ipv4 (x ++ t)) front
              ∙ ap ipv4 (append_assoc (take at s ++ slice at e s) (46 ∷ []) t ∙ append_assoc (take at s) (slice at e s) (46 ∷ t))
              ∙ o.value (slice at e s ++ (46 ∷ t))
              ∙ ap (λ x. four_from k a (each octet x)) (dotted t 0 v (slice at e s) (octet_digits (slice at e s) v here.value))
              ∙ ap (λ x. four_from k a (prepend x (each octet (parts 46 t)))) here.value
              ∙ step (each octet (parts 46 t));
        }
      where
        front : take (e + 1) s ≡ (take at s ++ slice at e s) ++ (46 ∷ [])
        front =
            let m : e < length s = dot_inside l in
            let j : at ≤ e = omega (arith, here.around.some_byte) in
            let x : take (e + 1) s ≡ take e s ++ (get_or s e 0 ∷ []) = rw add-one (take-suc s e 0 m) in
            x ∙ ap (λ l. l ++ (get_or s e 0 ∷ [])) (upto_slice s at e j) ∙ ap (λ c. take at s ++ slice at e s ++ (c ∷ [])) d

    pub address_there : k ≤ 3 → 3 ≤ k → AddressTo s e (a * 256 + v)
    unfolding each number
    address_there l m = record { around = around; value = value }
      where
        three : k ≡ 3
        three = omega arith

        around : DigitsAround s 0 e
        around = record { some_byte = omega (arith, here.around.some_byte); inside = here.around.inside; first = starts; last = here.around.last }

        value : ipv4 (take e s) ≡ Some (a * 256 + v)
        value =
            let j : at ≤ e = omega (arith, here.around.some_byte) in
            ap ipv4 (upto_slice s at e j)
            ∙ o.value (slice at e s)
            ∙ ap (λ x. four_from k a (each octet x)) (undotted 0 v (slice at e s) (octet_digits (slice at e s) v here.value))
            ∙ ap (λ x. four_from k a (prepend x (Some []))) here.value
            ∙ rw three

-- what reading an address uses
pub ruleset front_laws = (room, room_for, octets_grow, octets_start, octet_below, dot_inside, dot_fits, dot_near, octets_more, address_there)
