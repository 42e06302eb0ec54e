-- Laws of a route's line that is put together from texts: a plain path's text is copied.
use Rattle.std.specs.Prelude.{Result, Ok, Err, Option, Some, None}
use Rattle.std.proofs.Common.{◌≡◌, ℕ, ◌+◌, ◌-◌, ◌*◌, ◌/◌, ◌%◌, ◌^◌, ◌<◌, ◌≤◌, Fits, w64, false, eqb, List, [], ◌∷◌, ◌++◌, map, length, get_or, take, drop, sym, refl, ap, ◌∙◌, subst, append_assoc, append-nil, add-one, arith, length-take, take-suc, take-add, ne_eqb, leb-true}
use native.Mathlib.Nat.{pow-le-pow_right}
use Rattle.std.proofs.lemmas.Option.{none-some}
use Rattle.std.specs.Result.{result_ok}
use Rattle.output.specs.Output.{Written, front, answer}
use Rattle.output.specs.declared.PutError.{PutError}
use Rattle.output.specs.declared.PutError.TheVariants.{TooShort}
use Rattle.word.specs.Word.{number, little_endian, bytes as word_bytes}
use Rattle.word.proofs.Laws.{Bytes, number_back, byte_at, bytes_fit, take_bytes, drop_bytes, number_bound}
use Rattle.decimal.specs.Decimal.{leading}
use Rattle.decimal.proofs.FrontValue.{first_value}
use Rattle.decimal_display.specs.Printed.{decimal}
use Rattle.decimal_display.proofs.ReadBack.{digits_printed}
use Rattle.aspath_display.specs.Display.{lead, separated}
use Rattle.path_text.specs.Path.{last_or, asns_of}
use Rattle.path_text.specs.Walk.{asns_from, Takes}
use Rattle.path_text.proofs.PathLaws.{asns_are, many_places}
use Rattle.path_text.proofs.PlainLaws.{counted_inside, counted_found, counted_digits, counted_first, counted_space, last_none}
use Rattle.psv.specs.declared.Attributes.{Attributes}
use Rattle.psv.specs.Line.{sequence_text, asn_text, texts_line}
use Rattle.text_dump.specs.Rules.{origin_asn}
use Rattle.psv_stream.specs.Printed.{feed}
use Rattle.psv_stream.specs.Parts.{Spells, PlainNumber, PlainDigits, IsPlain, copied_text, Copies}
use Rattle.psv_stream.proofs.Texts.{Told, told_by, part_put, whole_again}

-- the origin AS is the last of the numbers
last_text : (ns : List ℕ) → last_or [] (map decimal ns) ≡ asn_text (origin_asn ns)
unfolding last_or asn_text origin_asn
last_text [] = refl
last_text (n ∷ []) = refl
last_text (n ∷ m ∷ ns) = last_text (m ∷ ns)

-- a path read up to the place `at`: its text so far ends in front of the last space, and its last number begins at `last`
pub record Copied (path : List ℕ) (at last : ℕ) : Type 0 where
  pub inside : at ≤ length path
  pub order : last ≤ at - 1
  pub space : take (at - 1) path ++ lead (eqb at 0) 32 ≡ take at path
  pub text : take (at - 1) path ++ separated 32 decimal (eqb at 0) (asns_from path at) ≡ sequence_text (asns_of path)
  pub asn : last_or (take (at - 1 - last) (drop last path)) (map decimal (asns_from path at)) ≡ asn_text (origin_asn (asns_of path))

pub copied_starts : (path : List ℕ) → Copied path 0 0
copied_starts path =
    record {
      inside = omega arith;
      order = omega arith;
      space = refl;
      text = ap sequence_text (sym (asns_are path));
      asn = ap (λ ns. last_or [] (map decimal ns)) (sym (asns_are path)) ∙ last_text (asns_of path);
    }

-- one number more, with what it makes
module _ (path : List ℕ) (at last n v : ℕ) (c : Copied path at last) (before : at + n < length path) (digits : take n (drop at path) ≡ decimal v) (space : get_or path (at + n) 0 ≡ 32) (next : Takes path at v (at + n + 1)) where
  so_far : take (at + n) path ≡ take at path ++ decimal v
  so_far = take-add at n path ∙ rw digits

  one_more : Copied path (at + n + 1) at
  unfolding separated last_or
  one_more =
      let back : at + n + 1 - 1 ≡ at + n = omega arith in
      let size : at + n - at ≡ n = omega arith in
      let some : eqb (at + n + 1) 0 ≡ false = ne_eqb (at + n + 1) 0 (λ e. omega arith) in
      record {
        inside = omega arith;
        order = omega arith;
        space = rw (some, back, add-one, take-suc path (at + n) 0, space);
        text =
            rw (some, back, so_far, ← c.space) (simp append_assoc (simp append_assoc at (rw next.1 at c.text)));
        asn = rw (back, size, digits) (rw next.1 at c.asn);
      }

-- a word's bytes
byte_of : (w k : ℕ) → w < 2 ^ 64 → w / 2 ^ (8 * k) % 256 ≡ get_or (little_endian w) k 0
byte_of w k h = ap (λ (x : ℕ). x / 2 ^ (8 * k) % 256) (sym (number_back 7 w)) ∙ byte_at k (little_endian w) (bytes_fit 7 w h)

first_byte : (w : ℕ) → w % 256 ≡ get_or (little_endian w) 0 0
unfolding word_bytes
first_byte w = refl

-- what the tests of a word say of its bytes
pub plain_number : (w n : ℕ) → Fits w64 w → n ≡ length (leading (little_endian w)) → (n ≡ 0 → ⊥) → n ≤ 7 → w / 2 ^ (8 * n) % 256 ≡ 32 → (w % 256 ≡ 48 → ⊥)
    → PlainNumber (little_endian w) n
plain_number w n f digits some few space zero =
    record { digits = digits; some = omega (arith, some); few = few; no_zero = λ e. zero (first_byte w ∙ e); space = sym (byte_of w n f.fits) ∙ space }

-- the turns of the loop, and its end
module _ (path : List ℕ) (at last w : ℕ) (bytes : Bytes path) (c : Copied path at last) (q : w ≡ number (take 8 (drop at path))) where
  pub copied_ends : (n : ℕ) → n ≡ length (leading (little_endian w)) → n ≡ 0 → length path ≡ at + 1 → Spells path last (at - 1)
  unfolding separated last_or
  copied_ends n f z one =
      let none : asns_from path at ≡ [] = last_none path at w n bytes q f z one in
      record {
        inside = omega arith;
        order = c.order;
        text = sym (append-nil (take (at - 1) path)) ∙ rw none at c.text;
        asn = rw none at c.asn;
      }

  fits : w < 2 ^ 64
  fits =
      let t = take 8 (drop at path) in
      let bound : number t < 2 ^ (8 * length t) = number_bound t (take_bytes 8 (drop at path) (drop_bytes at path bytes)) in
      let most : 2 ^ (8 * length t) ≤ 2 ^ 64 = pow-le-pow_right (omega arith) {j = 64} (omega (arith, length-take 8 (drop at path))) in
      omega (arith, bound, most, q)

  module _ (r : Option ℕ) (told : PlainDigits w r) (n : ℕ) (k : r ≡ Some n) where
    plain : PlainNumber (little_endian w) n
    plain = subst (PlainDigits w) k told

    some : n ≡ 0 → ⊥
    some z = omega (arith, plain.some)

    space : w / 2 ^ (8 * n) % 256 ≡ 32
    space = byte_of w n fits ∙ plain.space

    pub copied_inside : at + n < length path
    copied_inside = counted_inside path at w n bytes q plain.digits plain.few space

    pub copied_more : Copied path (at + n + 1) at
    copied_more =
        one_more path at last n (first_value w) c copied_inside printed (counted_space path at w n bytes q plain.digits plain.few space) (counted_found path at w n bytes q plain.digits plain.few space some)
      where
        first : get_or (take n (drop at path)) 0 0 ≡ get_or (little_endian w) 0 0
        first = counted_first path at w n bytes q plain.digits plain.few space some ∙ first_byte w

        printed : take n (drop at path) ≡ decimal (first_value w)
        printed = digits_printed (first_value w) (take n (drop at path)) (counted_digits path at w n bytes q plain.digits plain.few space some) (λ e. plain.no_zero (sym first ∙ e))

-- what is told of a path that is plain
module _ (path : List ℕ) (p : Option (ℕ × ℕ)) (told : IsPlain path p) (last end : ℕ) (f : p ≡ Some (last, end)) where
  pub spelled : Spells path last end
  spelled = subst (IsPlain path) f told

  pub spelled_order : last ≤ end
  spelled_order = spelled.order

  pub spelled_inside : end ≤ length path
  spelled_inside = spelled.inside

-- the line
module _ (start path : List ℕ) (a : Attributes) (out part : List ℕ) (last end : ℕ) (r : Result ℕ PutError) (room : 65537 ≤ length out) (s : Spells path last end) (told : (r ≡ answer (texts_line start (take end path) (take (end - last) (drop last path)) a) (take 65536 out)) × (part ≡ front (texts_line start (take end path) (take (end - last) (drop last path)) a) (take 65536 out))) where
  abbrev text : List ℕ
  text = copied_text start path a

  known : (q : Result ℕ PutError) → r ≡ q → Told text (take 65536 out) part q
  known q f = subst (Told text (take 65536 out) part) f (told_by text (take 65536 out) part r (rw (s.text, s.asn) at told))

  pub copied_put : length path ≤ 16384 → (n : ℕ) → r ≡ Ok n → (new : List ℕ) (w : ℕ) → Written feed (part ++ drop 65536 out) n new w
      → Copies start path a out new (Some w)
  copied_put few n f new w v =
      let y = part_put out part room text n (known (Ok n) f) new w v in
      (leb-true (length (asns_of path)) 16384 (sym (many_places path 16384 few)), y.0, y.1)

  pub copied_short : (q : Result ℕ PutError) → Told text (take 65536 out) part q → result_ok q ≡ None → part ++ drop 65536 out ≡ out
  copied_short (Ok n) h f = absurd (none-some n (sym f))
  copied_short (Err TooShort) h f = whole_again out part room h.1

  pub copied_none : result_ok r ≡ None → (w : Option ℕ) → w ≡ None → Copies start path a out (part ++ drop 65536 out) w
  copied_none f w g = rw g (copied_short r (known r refl) f)

-- for the walk over a path
pub ruleset walk_laws = (copied_starts, copied_ends, copied_inside, copied_more)
