-- Laws of the quick ways: a plain number, and a lone byte at the end.
use Rattle.std.specs.Prelude.{Some, None}
use Prim.Native.Nat.{ℕ, suc, ◌+◌, ◌-◌, ◌*◌, ◌/◌, ◌%◌, ◌^◌, ◌≤◌, ◌<◌}
use native.Mathlib.Nat.{pow-le-pow_right}
use mathlib.Core.Path.{◌≡◌, refl, sym, ap, ◌∙◌}
use mathlib.Core.Bool.{Bool, true, false, cond, not}
use mathlib.Core.List.{List, [], ◌∷◌, ◌++◌, map, flatten}
use native.Mathlib.Omega.{arith}
use lib.ListN.{length, get_or, take, drop, length-take, drop_of_length-le, take-append-drop, get_or-eq_default}
use lib.Seq.{drop-cons, drop-drop, get_or-drop, get_or-take, take-take}
use lib.Dec.{leb, eqb}
use borrow.Author.Tests.{lt-ltb, leb-true, leb-false}
use Rattle.word.specs.Word.{number, little_endian}
use Rattle.word.proofs.Laws.{Bytes, drop_bytes, take_bytes, byte_at}
use Rattle.scan.specs.Lists.{onto, non_empty, split_by}
use Rattle.utf8.specs.Utf8.{chars}
use Rattle.utf8.specs.Utf8.{chars_from}
use Rattle.utf8.proofs.CharLaws.{piece_pos, piece_le}
use Rattle.utf8.proofs.CharsLaws.{chars_front}
use Rattle.text.specs.White.{is_space, tokens}
use Rattle.decimal.specs.Decimal.{is_digit, behind, digits, unsigned, below, read_u32, leading, or_zero, first_digits}
use Rattle.decimal.specs.declared.FirstDigits.{FirstDigits}
use Rattle.decimal.proofs.Laws.{digits_bound, unsigned_digits}
use Rattle.decimal.proofs.Reading.{start}
use Rattle.decimal.proofs.Leading.{leading_front, leading_value}
use Rattle.decimal.proofs.FrontValue.{first_value, first_told, first_of}
use Rattle.path_text.specs.Path.{numbers}
use Rattle.path_text.specs.Walk.{asns_from, Takes, lone}
use Rattle.path_text.proofs.TokensLaws.{parted, digits_token}

-- a lone byte that is no digit is no number
read_lone : (b : ℕ) → is_digit b ≡ false → read_u32 (b ∷ []) ≡ None
unfolding unsigned digits behind
read_lone b f = go (eqb b 43)
  where
    go : (z : Bool) → (below (2 ^ 32) (cond z None (cond (is_digit b) (Some (0 * 10 + (b - 48))) None))) ≡ None
    go true = refl
    go false = rw f

chars_lone : (b : ℕ) → chars (b ∷ []) ≡ (b ∷ []) ∷ []
unfolding chars_from
chars_lone b = chars_front (b ∷ []) [] (omega arith) (omega (arith, piece_pos (b ∷ []), piece_le (b ∷ []) (omega arith)))

pub lone_none : (s : List ℕ) → lone s ≡ true → numbers (tokens s) ≡ []
unfolding lone numbers split_by onto non_empty flatten
lone_none [] e = let z : ◌≡◌ {A = ℕ} 0 1 = cc in absurd (omega arith)
lone_none (b ∷ []) e = rw (chars_lone b) (go (is_space (b ∷ [])) (is_digit b) refl e)
  where
    go : (z y : Bool) → is_digit b ≡ y → not y ≡ true → numbers (map flatten (non_empty (cond z ([] ∷ [] ∷ []) (((b ∷ []) ∷ []) ∷ [])))) ≡ []
    go z true f g = let z : ◌≡◌ {A = ℕ} 0 1 = cc in absurd (omega arith)
    go true false f g = refl
    go false false f g = rw (read_lone b f)
lone_none (b ∷ c ∷ s) e = let z : ◌≡◌ {A = ℕ} 0 1 = cc in absurd (omega arith)

-- is_lone's ways out
pub lone_past : (s : List ℕ) (i : ℕ) → length s ≤ i → false ≡ lone (drop i s)
unfolding lone
lone_past s i h = rw (drop_of_length-le s h)

pub lone_many : (s : List ℕ) (i : ℕ) → 1 < length s - i → false ≡ lone (drop i s)
unfolding lone
lone_many s i h = rw (drop-cons s i 0 (omega arith), drop-cons s (suc i) 0 (omega arith))

pub lone_here : (s : List ℕ) (i : ℕ) → i < length s → length s - i ≤ 1 → not (is_digit (get_or s i 0)) ≡ lone (drop i s)
unfolding lone
lone_here s i h l = rw (drop-cons s i 0 h, drop_of_length-le s {i = suc i} (omega arith)) refl

-- a place where the eight bytes from it on begin with n digits
module _ (s : List ℕ) (at w n : ℕ) (bytes : Bytes s) (q : w ≡ number (take 8 (drop at s))) (f : n ≡ length (leading (little_endian w))) where
  front : List ℕ
  front = leading (take 8 (drop at s))

  inside : Bytes (take 8 (drop at s))
  inside = take_bytes 8 (drop at s) (drop_bytes at s bytes)

  read : leading (little_endian w) ≡ front
  unfolding front
  read = rw q (first_of (take 8 (drop at s)) inside (simp length-take (omega arith)))

  size : n ≡ length front
  size = f ∙ ap length read

  made : behind 0 front ≡ Some (first_value w)
  unfolding front
  made = leading_value 0 (take 8 (drop at s)) ∙ ap Some (sym (ap (λ d. or_zero (behind 0 d)) read))

  -- none, and the place is the last: a lone byte that is no digit
  pub last_none : n ≡ 0 → length s ≡ at + 1 → asns_from s at ≡ []
  unfolding front lone leading
  last_none z l =
      let one : drop at s ≡ get_or s at 0 ∷ [] = drop-cons s at 0 (omega arith) ∙ rw (drop_of_length-le s {i = suc at} (omega arith)) in
      let None : length (leading (get_or s at 0 ∷ [])) ≡ 0 = rw one at (sym size ∙ z) in
      lone_none (drop at s) (rw one (go (is_digit (get_or s at 0)) None))
    where
      go : (b : Bool) → length (cond b (get_or s at 0 ∷ []) []) ≡ 0 → not b ≡ true
      go true h = absurd (omega arith)
      go false h = refl

  -- at most seven, so that the byte behind them is in the word
  module _ (few : n ≤ 7) where
    behind_it : w / 2 ^ (8 * n) % 256 ≡ get_or s (at + n) 0
    behind_it =
        ap (λ x. x / 2 ^ (8 * n) % 256) q ∙ byte_at n (take 8 (drop at s)) inside ∙ get_or-take 8 (drop at s) n 0 (omega arith) ∙ get_or-drop at s n 0

    -- a byte that is not 0 is one of the text
    pub some_inside : (w / 2 ^ (8 * n) % 256 ≡ 0 → ⊥) → at + n < length s
    some_inside some_byte = go (leb (length s) (at + n)) refl
      where
        go : (z : Bool) → leb (length s) (at + n) ≡ z → at + n < length s
        go true h = absurd (some_byte (behind_it ∙ get_or-eq_default s 0 (leb-true (length s) (at + n) h)))
        go false h = leb-false (length s) (at + n) h

  -- some, and a space behind them: the next number
  module _ (few : n ≤ 7) (space : w / 2 ^ (8 * n) % 256 ≡ 32) where
    pub counted_space : get_or s (at + n) 0 ≡ 32
    counted_space = sym (behind_it few) ∙ space

    pub counted_inside : at + n < length s
    counted_inside = some_inside few (λ z. omega (arith, space))

    there : take n (drop at s) ≡ front
    unfolding front
    there = sym (take-take n 8 (drop at s) (omega arith)) ∙ ap (λ m. take m (take 8 (drop at s))) size ∙ leading_front (take 8 (drop at s))

    whole : drop at s ≡ front ++ (32 ∷ drop (at + n + 1) s)
    whole =
        let k : suc (at + n) ≡ at + n + 1 = omega arith in
        sym (take-append-drop n (drop at s)) ∙ ap (λ l. l ++ drop n (drop at s)) there
        ∙ ap (λ l. front ++ l) (drop-drop n at s ∙ rw (drop-cons s (at + n) 0 counted_inside, counted_space, k))

    module _ (some-count : n ≡ 0 → ⊥) where
      some_digit : digits front ≡ Some (first_value w)
      some_digit = start front (λ z. some-count (size ∙ z)) ∙ made

      pub counted_found : Takes s at (first_value w) (at + n + 1)
      unfolding numbers
      counted_found =
          let v = first_value w in
          let rest = drop (at + n + 1) s in
          let cut : tokens (drop at s) ≡ front ∷ tokens rest = ap tokens whole ∙ parted front rest ∙ ap (λ x. x ++ tokens rest) (digits_token v front some_digit) in
          let low : 10 ^ length front ≤ 10 ^ 7 = pow-le-pow_right (omega arith) {j = 7} (omega (arith, size)) in
          let reads : read_u32 front ≡ Some v = rw (unsigned_digits v front some_digit, lt-ltb v (2 ^ 32) (omega (arith, digits_bound v front some_digit))) in
          (record { later = omega arith; inside = omega (arith, counted_inside) }, rw (cut, reads))

      pub counted_digits : digits (take n (drop at s)) ≡ Some (first_value w)
      counted_digits = rw there some_digit

      -- their first is the word's lowest byte
      pub counted_first : get_or (take n (drop at s)) 0 0 ≡ w % 256
      counted_first =
          get_or-take n (drop at s) 0 0 (omega (arith, some-count)) ∙ sym (get_or-take 8 (drop at s) 0 0 (omega arith))
          ∙ sym (byte_at 0 (take 8 (drop at s)) inside) ∙ omega (arith, q)

-- the same with what they make
module _ (s : List ℕ) (at w : ℕ) (r : FirstDigits) (bytes : Bytes s) (q : w ≡ number (take 8 (drop at s))) (f : Some r ≡ first_digits w) (few : r.count ≤ 7) where
  told : (r.count ≡ length (leading (little_endian w))) × (r.count ≡ 0 → ⊥) × (r.value ≡ first_value w)
  told = first_told w r f

  pub plain_inside : (w / 2 ^ (8 * r.count) % 256 ≡ 0 → ⊥) → at + r.count < length s
  plain_inside = some_inside s at w r.count bytes q told.0 few

  pub plain_found : w / 2 ^ (8 * r.count) % 256 ≡ 32 → Takes s at r.value (at + r.count + 1)
  plain_found space = rw told.2 (counted_found s at w r.count bytes q told.0 few space told.1)

-- for is_lone
pub ruleset lone_laws = (lone_past, lone_many, lone_here)
