-- Laws of the length behind an address.
use Rattle.std.specs.Prelude.{Some}
use lib.Seq.{take_all, get_or-drop}
use lib.ListN.{length-drop}
use Rattle.std.proofs.Common.{◌≡◌, ◌∙◌, refl, sym, ap, take, drop, ℕ, ◌+◌, ◌-◌, ◌*◌, ◌%◌, ◌≤◌, true, List, [], ◌∷◌, length, get_or, arith, lt-ltb}
use Rattle.decimal.specs.Decimal.{is_digit, behind, digits}
use Rattle.decimal.proofs.Laws.{digit_high}
use Rattle.network.specs.Prefix.{length_of}
use Rattle.fields.specs.Fronts.{BitsAt}
use Rattle.fields.proofs.OctetLaws.{digit_known, slice_one, slice_two}

-- one digit, and two
length_one : (x : ℕ) → is_digit x ≡ true → length_of 2 32 (x ∷ []) ≡ Some (x - 48)
unfolding length_of digits behind
length_one x h =
    let z : 0 * 10 + (x - 48) ≡ x - 48 = omega arith in
    simp (h, z, lt-ltb (x - 48) 33 (omega (arith, digit_high x h)))

length_two : (x y : ℕ) → is_digit x ≡ true → is_digit y ≡ true → (x - 48) * 10 + (y - 48) ≤ 32 → length_of 2 32 (x ∷ y ∷ []) ≡ Some ((x - 48) * 10 + (y - 48))
unfolding length_of digits behind
length_two x y h i l =
    let z : 0 * 10 + (x - 48) ≡ x - 48 = omega arith in
    simp (h, i, z, lt-ltb ((x - 48) * 10 + (y - 48)) 33 (omega arith))

module _ (s : List ℕ) (at : ℕ) (h : 3 ≤ length s - at) (e : get_or s at 0 ≡ 47) (a : ℕ) (ea : (a + 48) % 256 ≡ get_or s (at + 1) 0) (la : a ≤ 9) where
  da : (is_digit (get_or s (at + 1) 0) ≡ true) × (a ≡ get_or s (at + 1) 0 - 48)
  da = digit_known (get_or s (at + 1) 0) a ea la

  pub bits_one : BitsAt s at (at + 2) a
  bits_one =
      let k : at + 2 - 1 ≡ at + 1 = omega arith in
      let z : at + 2 ≡ at + 1 + 1 = omega arith in
      record {
        mark = e;
        around = record { some_byte = omega arith; inside = omega arith; first = da.0; last = rw k da.0 };
        value = rw (z, slice_one s (at + 1) (omega arith), da.1) (length_one (get_or s (at + 1) 0) da.0);
      }

  pub bits_two : (b : ℕ) → (b + 48) % 256 ≡ get_or s (at + 2) 0 → b ≤ 9 → a * 10 + b ≤ 32 → BitsAt s at (at + 3) (a * 10 + b)
  bits_two b eb lb l =
      let db : (is_digit (get_or s (at + 2) 0) ≡ true) × (b ≡ get_or s (at + 2) 0 - 48) = digit_known (get_or s (at + 2) 0) b eb lb in
      let k : at + 3 - 1 ≡ at + 2 = omega arith in
      let z : at + 3 ≡ at + 1 + 2 = omega arith in
      let y : at + 1 + 1 ≡ at + 2 = omega arith in
      record {
        mark = e;
        around = record { some_byte = omega arith; inside = omega arith; first = da.0; last = rw k db.0 };
        value =
            rw (z, slice_two s (at + 1) (omega arith), y, da.1, db.1)
            (length_two (get_or s (at + 1) 0) (get_or s (at + 2) 0) da.0 db.0 (rw (da.1, db.1) at l));
      }

-- the same, of the text from the place on
module _ (s : List ℕ) (at : ℕ) where
  abbrev rest : List ℕ
  rest = take (length s - at) (drop at s)

  rest_is : rest ≡ drop at s
  rest_is = take_all (length s - at) (drop at s) (simp length-drop (omega arith))

  byte_at : (k n : ℕ) → at + k ≡ n → get_or (take (length s - at) (drop at s)) k 0 ≡ get_or s n 0
  byte_at k n e = ap (λ t. get_or t k 0) rest_is ∙ get_or-drop at s k 0 ∙ ap (λ m. get_or s m 0) e

  module _ (h : 3 ≤ length (take (length s - at) (drop at s))) (e : get_or (take (length s - at) (drop at s)) 0 0 ≡ 47) where
    three : 3 ≤ length s - at
    three = omega (arith, h, ap length rest_is, length-drop at s)

    mark : get_or s at 0 ≡ 47
    mark = sym (byte_at 0 at (omega arith)) ∙ e

    module _ (a : ℕ) (ea : (a + 48) % 256 ≡ get_or (take (length s - at) (drop at s)) 1 0) (la : a ≤ 9) where
      pub rest_one : BitsAt s at (at + 2) a
      rest_one = bits_one s at three mark a (ea ∙ byte_at 1 (at + 1) refl) la

      pub rest_two : (b : ℕ) → (b + 48) % 256 ≡ get_or (take (length s - at) (drop at s)) 2 0 → b ≤ 9 → a * 10 + b ≤ 32 → BitsAt s at (at + 3) (a * 10 + b)
      rest_two b eb = bits_two s at three mark a (ea ∙ byte_at 1 (at + 1) refl) la b (eb ∙ byte_at 2 (at + 2) refl)

-- what reading a length uses
pub ruleset bits_laws = (rest_one, rest_two)
