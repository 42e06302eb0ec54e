-- Laws of an octet and of four of them at the front of a text.
use Rattle.std.specs.Prelude.{Some}
use Rattle.std.proofs.Common.{◌≡◌, ℕ, suc, ◌+◌, ◌-◌, ◌*◌, ◌%◌, ◌<◌, ◌≤◌, true, List, [], ◌∷◌, length, get_or, ap, ◌∙◌, add-one, arith, lt-ltb, ne_eqb, le-leb}
use lib.Seq.{slice, slice_empty, slice-cons}
use Rattle.decimal.specs.Decimal.{is_digit, behind, digits}
use Rattle.decimal.proofs.Laws.{digit_high}
use Rattle.ipv4.specs.Ipv4.{octet}
use Rattle.fields.specs.Fronts.{OctetAt}

-- what is 0 to 9 behind 48 is a digit
pub digit_known : (b d : ℕ) → (d + 48) % 256 ≡ b → d ≤ 9 → (is_digit b ≡ true) × (d ≡ b - 48)
digit_known b d e h = (simp (le-leb 48 b (omega arith), le-leb b 57 (omega arith)), omega arith)

-- the first bytes from a place on
module _ (s : List ℕ) where
  pub slice_one : (a : ℕ) → a < length s → slice a (a + 1) s ≡ get_or s a 0 ∷ []
  slice_one a h = rw add-one (slice-cons a (suc a) s 0 (omega arith) (omega arith) ∙ ap (λ l. get_or s a 0 ∷ l) (slice_empty (suc a) s))

  pub slice_two : (a : ℕ) → a + 1 < length s → slice a (a + 2) s ≡ get_or s a 0 ∷ get_or s (a + 1) 0 ∷ []
  slice_two a h =
      let y : suc a ≡ a + 1 = omega arith in
      let z : a + 2 ≡ a + 1 + 1 = omega arith in
      slice-cons a (a + 2) s 0 (omega arith) (omega arith) ∙ ap (λ l. get_or s a 0 ∷ l) (rw (y, z) (slice_one (a + 1) h))

  slice_three : (a : ℕ) → a + 2 < length s → slice a (a + 3) s ≡ get_or s a 0 ∷ get_or s (a + 1) 0 ∷ get_or s (a + 2) 0 ∷ []
  slice_three a h =
      let y : suc a ≡ a + 1 = omega arith in
      let z : a + 3 ≡ a + 1 + 2 = omega arith in
      let x : a + 2 ≡ a + 1 + 1 = omega arith in
      slice-cons a (a + 3) s 0 (omega arith) (omega arith) ∙ ap (λ l. get_or s a 0 ∷ l) (rw (y, z, x) (slice_two (a + 1) (omega arith)))

-- the octet that one, two or three digits make
value_one : (x : ℕ) → is_digit x ≡ true → octet (x ∷ []) ≡ Some (x - 48)
unfolding octet digits behind
value_one x h =
    let z : 0 * 10 + (x - 48) ≡ x - 48 = omega arith in
    simp (h, z, lt-ltb (x - 48) 256 (omega (arith, digit_high x h)))

value_two : (x y : ℕ) → is_digit x ≡ true → is_digit y ≡ true → (x - 48 ≡ 0 → ⊥) → octet (x ∷ y ∷ []) ≡ Some ((x - 48) * 10 + (y - 48))
unfolding octet digits behind
value_two x y h i n =
    let z : 0 * 10 + (x - 48) ≡ x - 48 = omega arith in
    simp (h, i, z, ne_eqb x 48 (λ e. n (omega arith)), lt-ltb ((x - 48) * 10 + (y - 48)) 256 (omega (arith, digit_high x h, digit_high y i)))

value_three : (x y w : ℕ) → is_digit x ≡ true → is_digit y ≡ true → is_digit w ≡ true → (x - 48 ≡ 0 → ⊥)
    → (x - 48) * 100 + (y - 48) * 10 + (w - 48) ≤ 255 → octet (x ∷ y ∷ w ∷ []) ≡ Some ((x - 48) * 100 + (y - 48) * 10 + (w - 48))
unfolding octet digits behind
value_three x y w h i j n l =
    let z : 0 * 10 + (x - 48) ≡ x - 48 = omega arith in
    let u : ((x - 48) * 10 + (y - 48)) * 10 + (w - 48) ≡ (x - 48) * 100 + (y - 48) * 10 + (w - 48) = omega arith in
    simp (h, i, j, z, ne_eqb x 48 (λ e. n (omega arith)), u, lt-ltb ((x - 48) * 100 + (y - 48) * 10 + (w - 48)) 256 (omega arith))

module _ (s : List ℕ) (at : ℕ) (h : at + 3 ≤ length s) (a : ℕ) (ea : (a + 48) % 256 ≡ get_or s at 0) (la : a ≤ 9) where
  da : (is_digit (get_or s at 0) ≡ true) × (a ≡ get_or s at 0 - 48)
  da = digit_known (get_or s at 0) a ea la

  pub octet_one : OctetAt s at (at + 1) a
  octet_one =
      let k : at + 1 - 1 ≡ at = omega arith in
      record {
        around = record { some_byte = omega arith; inside = omega arith; first = da.0; last = rw k da.0 };
        short = omega arith;
        value = rw (slice_one s at (omega arith), da.1) (value_one (get_or s at 0) da.0);
      }

  module _ (b : ℕ) (eb : (b + 48) % 256 ≡ get_or s (at + 1) 0) (lb : b ≤ 9) (n : a ≡ 0 → ⊥) where
    db : (is_digit (get_or s (at + 1) 0) ≡ true) × (b ≡ get_or s (at + 1) 0 - 48)
    db = digit_known (get_or s (at + 1) 0) b eb lb

    pub octet_two : OctetAt s at (at + 2) (a * 10 + b)
    octet_two =
        let k : at + 2 - 1 ≡ at + 1 = omega arith in
        record {
          around = record { some_byte = omega arith; inside = omega arith; first = da.0; last = rw k db.0 };
          short = omega arith;
          value = rw (slice_two s at (omega arith), da.1, db.1) (value_two (get_or s at 0) (get_or s (at + 1) 0) da.0 db.0 (λ z. n (da.1 ∙ z)));
        }

    module _ (c : ℕ) (ec : (c + 48) % 256 ≡ get_or s (at + 2) 0) (lc : c ≤ 9) where
      dc : (is_digit (get_or s (at + 2) 0) ≡ true) × (c ≡ get_or s (at + 2) 0 - 48)
      dc = digit_known (get_or s (at + 2) 0) c ec lc

      pub octet_three : a * 100 + b * 10 + c ≤ 255 → OctetAt s at (at + 3) (a * 100 + b * 10 + c)
      octet_three m =
          let k : at + 3 - 1 ≡ at + 2 = omega arith in
          record {
            around = record { some_byte = omega arith; inside = omega arith; first = da.0; last = rw k dc.0 };
            short = omega arith;
            value =
                rw (slice_three s at (omega arith), da.1, db.1, dc.1)
                (value_three (get_or s at 0) (get_or s (at + 1) 0) (get_or s (at + 2) 0) da.0 db.0 dc.0 (λ z. n (da.1 ∙ z)) (rw (da.1, db.1, dc.1) at m));
          }

-- what reading an octet uses
pub ruleset octet_laws = (octet_one, octet_two, octet_three)
