-- Laws of what is read: an address or a prefix at the front with spaces behind it, else the trimmed
-- text.
use Rattle.std.specs.Prelude.{Option, Some}
use Rattle.std.proofs.Common.{◌≡◌, ℕ, ◌+◌, ◌-◌, ◌*◌, ◌<◌, ◌≤◌, Bool, true, leb, List, [], ◌∷◌, length, get_or, take, drop, sym, refl, ap, ◌∙◌, arith, length-take-le, get_or-take, take-take, le-ltb, lt-ltb, ne_eqb}
use lib.Seq.{slice}
use Rattle.utf8.specs.Utf8.{all}
use Rattle.text.specs.White.{trim}
use Rattle.decimal.specs.Decimal.{behind, digits}
use Rattle.network.specs.Address.{address, read_address}
use Rattle.network.specs.Prefix.{last_place, length_of, prefix, read_prefix}
use Rattle.network.specs.declared.IpAddr.TheVariants.{V4}
use Rattle.network.specs.declared.IpAddr.{IpAddr}
use Rattle.network.specs.declared.NetworkPrefix.{NetworkPrefix}
use Rattle.network.proofs.Reading.{last_here}
use Rattle.fields.specs.Fronts.{is_blank, DigitsAround, AddressTo, BitsAt}
use Rattle.fields.proofs.SpaceLaws.{spaces_cut, digits_trim}
use Rattle.fields.proofs.FrontLaws.{passed, digits_behind, digit_more}

-- spaces behind a text that begins and ends in a digit
module _ (s : List ℕ) (e : ℕ) (d : DigitsAround s 0 e) where
  size : length (take e s) ≡ e
  size = length-take-le e s d.inside

  pub trimmed : (z : Bool) → z ≡ all is_blank (drop e s) → z ≡ true → trim s ≡ take e s
  trimmed z q y =
      spaces_cut s e (sym q ∙ y)
      ∙ digits_trim (take e s) (record {
        some_byte = rw size d.some_byte;
        inside = omega arith;
        first = rw (get_or-take e s 0 0 d.some_byte) d.first;
        last = rw (size, get_or-take e s (e - 1) 0 (omega (arith, d.some_byte))) d.last;
      })

-- any text
pub address_plain : (s x : List ℕ) (r : Option IpAddr) → x ≡ trim s → r ≡ read_address x → r ≡ read_address (trim s)
address_plain s x r e f = f ∙ ap read_address e

pub prefix_plain : (s x : List ℕ) (r : Option NetworkPrefix) → x ≡ trim s → r ≡ read_prefix x → r ≡ read_prefix (trim s)
prefix_plain s x r e f = f ∙ ap read_prefix e

-- no '/' among digits
no_mark : (w n : ℕ) (p : List ℕ) → behind w p ≡ Some n → last_place 47 p ≡ length p
unfolding last_place
no_mark w n [] e = refl
no_mark w n (b ∷ p) e =
    let m = digit_more w n b p e in
    let i : last_place 47 p ≡ length p = no_mark (w * 10 + (b - 48)) n p m.1 in
    simp (i, le-ltb (length p) (length p) (omega arith), ne_eqb b 47 (λ z. omega (arith, m.0)))

-- an address at the front
module _ (s : List ℕ) (v e : ℕ) (here : AddressTo s e v) where
  pub address_inside : e ≤ length s
  address_inside = here.around.inside

  is_address : address (take e s) ≡ Some (V4 v)
  unfolding address
  is_address = rw here.value

  pub address_field : (z : Bool) → z ≡ all is_blank (drop e s) → z ≡ true → Some (V4 v) ≡ read_address (trim s)
  address_field z f y = sym (ap read_address (trimmed s e here.around z f y) ∙ rw is_address)

  -- with a length behind it
  module _ (n f : ℕ) (bits : BitsAt s e f n) where
    pub bits_inside : f ≤ length s
    bits_inside = bits.around.inside

    around : DigitsAround s 0 f
    around = record { some_byte = omega (arith, bits.around.some_byte); inside = bits_inside; first = here.around.first; last = bits.around.last }

    size_f : length (take f s) ≡ f
    size_f = length-take-le f s bits_inside

    behind_mark : behind 0 (slice (e + 1) f s) ≡ Some n
    unfolding length_of
    behind_mark = digits_behind n (slice (e + 1) f s) (passed (leb (length (slice (e + 1) f s)) 2) 33 n (digits (slice (e + 1) f s)) bits.value)

    mark_place : e ≡ last_place 47 (take f s)
    mark_place =
        let k : e + 1 - 1 ≡ e = omega arith in
        let g : get_or (take f s) e 0 ≡ 47 = get_or-take f s e 0 (omega (arith, bits.around.some_byte)) ∙ bits.mark in
        sym k ∙ last_here 47 (take f s) (e + 1) (omega arith) (rw size_f (omega (arith, bits.around.some_byte))) (no_mark 0 n (slice (e + 1) f s) behind_mark) (rw k g)

    is_prefix : prefix (take f s) ≡ Some (record { addr = V4 v; len = n })
    unfolding prefix
    is_prefix =
        let l : e < f = omega (arith, bits.around.some_byte) in
        let t : take e (take f s) ≡ take e s = take-take e f s (omega arith) in
        rw (← mark_place, size_f, lt-ltb e f l, t, is_address, bits.value)

    pub prefix_field : (z : Bool) → z ≡ all is_blank (drop f s) → z ≡ true → Some (record { addr = V4 v; len = n }) ≡ read_prefix (trim s)
    prefix_field z g x = sym (ap read_prefix (trimmed s f around z g x) ∙ rw is_prefix)

-- what reading an address and a prefix use
pub ruleset address_laws = (address_inside, address_field, address_plain)

pub ruleset prefix_laws = (address_inside, bits_inside, prefix_field, prefix_plain)
