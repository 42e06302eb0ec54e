-- Laws of a number at the front of a text with spaces behind it.
use Rattle.std.specs.Prelude.{Option, Some}
use Rattle.std.proofs.Common.{◌≡◌, ℕ, ◌-◌, ◌^◌, ◌<◌, ◌≤◌, Bool, true, List, length, get_or, take, drop, sym, ap, ◌∙◌, arith, length-take-le, get_or-take, lt-ltb}
use Rattle.utf8.specs.Utf8.{all}
use Rattle.text.specs.White.{trim}
use Rattle.decimal.specs.Decimal.{is_digit, digits, unsigned, read_u32, digits_at}
use Rattle.decimal.proofs.Laws.{unsigned_digits}
use Rattle.decimal.proofs.Reading.{start}
use Rattle.decimal.proofs.Leading.{Run, digit_in, digits_run, run_small}
use Rattle.fields.specs.Fronts.{is_blank, DigitsAround}
use Rattle.fields.proofs.FieldLaws.{trimmed}

module _ (s : List ℕ) (w : Option (ℕ × ℕ)) (q : w ≡ digits_at s 0) (v e : ℕ) (f : w ≡ Some (v, e)) (h : 0 < e) where
  run : Run s e v
  run = let z : e - 0 ≡ e = omega arith in rw z at (digits_run s 0 w q v e f)

  pub number_inside : e ≤ length s
  number_inside = run.inside

  size : length (take e s) ≡ e
  size = length-take-le e s number_inside

  digit_at : (j : ℕ) → j < e → is_digit (get_or s j 0) ≡ true
  digit_at j l = ap is_digit (sym (get_or-take e s j 0 l)) ∙ digit_in 0 v (take e s) j run.value (rw size l)

  around : DigitsAround s 0 e
  around = record { some_byte = h; inside = number_inside; first = digit_at 0 h; last = digit_at (e - 1) (omega arith) }

  pub number_field : (z : Bool) → z ≡ all is_blank (drop e s) → z ≡ true → Some v ≡ read_u32 (trim s)
  number_field z g y =
      let d : digits (take e s) ≡ Some v = start (take e s) (λ n. omega (arith, size)) ∙ run.value in
      let u : unsigned (trim s) ≡ Some v = ap unsigned (trimmed s e around z g y) ∙ unsigned_digits v (take e s) d in
      simp (u, lt-ltb v (2 ^ 32) (omega (arith, run_small s e v run 9 run.few)))

pub number_plain : (s x : List ℕ) (r : Option ℕ) → x ≡ trim s → r ≡ read_u32 x → r ≡ read_u32 (trim s)
number_plain s x r e f = f ∙ ap read_u32 e

-- what reading a number uses
pub ruleset number_laws = (number_inside, number_field, number_plain)
