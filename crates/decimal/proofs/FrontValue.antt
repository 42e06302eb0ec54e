-- What the digits at the front of a word's bytes make, computed from all of them at once. Assumes nothing.
use Rattle.std.specs.Prelude.{Option, Some, None, unwrap_or}
use Prim.Native.Nat.{ℕ, zero, suc, ◌+◌, ◌-◌, ◌*◌, ◌/◌, ◌%◌, ◌^◌, ◌≤◌, ◌<◌}
use mathlib.Core.Path.{◌≡◌, refl, sym, ap, ap₂, ◌∙◌}
use mathlib.Core.Bool.{Bool, true, false, cond}
use mathlib.Core.List.{List, [], ◌∷◌, ◌++◌, map, map-append, append-nil}
use native.Mathlib.Omega.{arith}
use mir.Syntax.{w32, w64}
use mir.Val.{Fits}
use lib.Bits.{bit_and, bit_xor, and_le_r}
use lib.ListN.{length, get_or, take, drop, replicate, length-append, length-replicate, length-map, take-append-drop}
use lib.Seq.{take_at}
use lib.Dec.{eqb}
use Rattle.std.proofs.lemmas.Option.{none-some}
use borrow.Author.Tests.{eqb-true, eqb-false, ne_eqb}
use Rattle.word.specs.Word.{number, bytes, little_endian}
use Rattle.word.proofs.Laws.{Bytes, length_bytes, bytes_fit, number_back, number_shift, number_zeros, bytes_back}
use Rattle.word.proofs.Lanes.{same, xor_bytes, xor_number, all_below, all_below_lem, joined}
use Rattle.decimal.specs.Decimal.{is_digit, behind, leading, or_zero, placed, first_digits}
use Rattle.decimal.specs.declared.FirstDigits.{FirstDigits}
use Rattle.decimal.proofs.Laws.{digit_low, digit_high, behind_cons}
use Rattle.decimal.proofs.Leading.{leading_front, leading_le, leading_value}

-- each is a digit as a number
abbrev pub Small : List ℕ → Type 0
Small s = (i : ℕ) → get_or s i 0 < 10

-- the code's joins: of digits to twos, of those to fours, and of those
abbrev twos : ℕ → ℕ
twos y = bit_and (y * 10 + y / 256) 71777214294589695

abbrev fours : ℕ → ℕ
fours t = bit_and (t * 100 + t / 65536) 281470681808895

abbrev eights : ℕ → ℕ
eights u = bit_and (u * 10000 + u / 4294967296) 4294967295

-- each pair is joined by itself
eight : (a b c d e f g h : ℕ) → a < 10 → b < 10 → c < 10 → d < 10 → e < 10 → f < 10 → g < 10 → h < 10
    → eights (fours (twos (number (a ∷ b ∷ c ∷ d ∷ e ∷ f ∷ g ∷ h ∷ [])))) ≡ placed 0 (a ∷ b ∷ c ∷ d ∷ e ∷ f ∷ g ∷ h ∷ [])
unfolding number placed
eight a b c d e f g h la lb lc ld le lf lg lh =
    let ab = joined 8 10 a b c (number (d ∷ e ∷ f ∷ g ∷ h ∷ [])) 1095233372415 (omega arith) (omega arith) (omega arith) in
    let cd = joined 8 10 c d e (number (f ∷ g ∷ h ∷ [])) 16711935 (omega arith) (omega arith) (omega arith) in
    let ef = joined 8 10 e f g (number (h ∷ [])) 255 (omega arith) (omega arith) (omega arith) in
    let gh = joined 8 10 g h 0 0 0 (omega arith) (omega arith) (omega arith) in
    let abcd = joined 16 100 (a * 10 + b) (c * 10 + d) (e * 10 + f) (g * 10 + h + 65536 * 0) 65535 (omega arith) (omega arith) (omega arith) in
    let efgh = joined 16 100 (e * 10 + f) (g * 10 + h) 0 0 0 (omega arith) (omega arith) (omega arith) in
    let all = joined 32 10000 ((a * 10 + b) * 100 + (c * 10 + d)) ((e * 10 + f) * 100 + (g * 10 + h)) 0 0 0 (omega arith) (omega arith) (omega arith) in
    rw (ab, cd, ef, gh, abcd, efgh, all) (omega arith)

pub joins : (y : ℕ) → Small (little_endian y) → eights (fours (twos y)) ≡ placed 0 (little_endian y)
unfolding bytes
joins y h =
    ap (λ v. eights (fours (twos v))) (sym (number_back 7 y))
    ∙ eight (y % 256) (y / 256 % 256) (y / 256 / 256 % 256) (y / 256 / 256 / 256 % 256) (y / 256 / 256 / 256 / 256 % 256) (y / 256 / 256 / 256 / 256 / 256 % 256) (y / 256 / 256 / 256 / 256 / 256 / 256 % 256) (y / 256 / 256 / 256 / 256 / 256 / 256 / 256)
    (h 0) (h 1) (h 2) (h 3) (h 4) (h 5) (h 6) (h 7)

-- digits bound the word that they are
small_bound : (s : List ℕ) → Small s → number s ≤ same 9 s
unfolding number same
small_bound [] h = omega arith
small_bound (b ∷ s) h = omega (arith, h 0, small_bound s (λ i. h (suc i)))

pub ones_bound : (y : ℕ) → Small (little_endian y) → y ≤ 651061555542690057
unfolding bytes same
ones_bound y h = rw number_back at (small_bound (little_endian y) h)

-- what comes out of a mask is small, whatever goes in
pub twos_product : (x : ℕ) → Fits w64 (bit_and x 71777214294589695 * 100)
twos_product x = record { fits = omega (arith, and_le_r x 71777214294589695) }

pub twos_sum : (x : ℕ) → Fits w64 (bit_and x 71777214294589695 * 100 + bit_and x 71777214294589695 / 65536)
twos_sum x = record { fits = omega (arith, and_le_r x 71777214294589695) }

pub fours_product : (x : ℕ) → Fits w64 (bit_and x 281470681808895 * 10000)
fours_product x = record { fits = omega (arith, and_le_r x 281470681808895) }

pub fours_sum : (x : ℕ) → Fits w64 (bit_and x 281470681808895 * 10000 + bit_and x 281470681808895 / 4294967296)
fours_sum x = record { fits = omega (arith, and_le_r x 281470681808895) }

pub eights_fit : (x : ℕ) → Fits w32 (bit_and x 4294967295)
eights_fit x = record { fits = omega (arith, and_le_r x 4294967295) }

-- a digit without the bits of '0' is its number
abbrev bare : ℕ → ℕ
bare b = bit_xor b 48

bare_digit : (b : ℕ) → is_digit b ≡ true → bare b ≡ b - 48
unfolding all_below
bare_digit b e =
    let l : 48 ≤ b = digit_low b e in
    let h : b ≤ 57 = digit_high b e in
    let z : 48 + (b - 48) ≡ b = omega arith in
    rw z at (eqb-true (bare (48 + (b - 48))) (b - 48) (all_below_lem 10 (λ d. eqb (bare (48 + d)) d) refl (b - 48) (omega arith)))

-- digits without them
bare_placed : (v n : ℕ) (d : List ℕ) → behind v d ≡ Some n → placed v (map bare d) ≡ n
unfolding behind placed
bare_placed v n [] e = cc
bare_placed v n (b ∷ d) e =
    let f : (is_digit b ≡ true) × (behind (v * 10 + (b - 48)) d ≡ Some n) = behind_cons v b n d e in
    rw (bare_digit b f.0) (bare_placed (v * 10 + (b - 48)) n d f.1)

bare_small : (v n : ℕ) (d : List ℕ) → behind v d ≡ Some n → Small (map bare d)
bare_small v n [] e i = omega arith
bare_small v n (b ∷ d) e zero =
    let f : is_digit b ≡ true = (behind_cons v b n d e).0 in
    omega (arith, bare_digit b f, digit_high b f)
bare_small v n (b ∷ d) e (suc i) = bare_small (v * 10 + (b - 48)) n d (behind_cons v b n d e).1 i

-- zeros in front of digits
zeros_small : (k : ℕ) (s : List ℕ) → Small s → Small (replicate k 0 ++ s)
zeros_small zero s h i = h i
zeros_small (suc k) s h zero = omega arith
zeros_small (suc k) s h (suc i) = zeros_small k s h i

zeros_placed : (k : ℕ) (s : List ℕ) → placed 0 (replicate k 0 ++ s) ≡ placed 0 s
unfolding placed
zeros_placed zero s = refl
zeros_placed (suc k) s = zeros_placed k s

-- the digits at the front of eight bytes, shifted to their end
abbrev row : List ℕ → List ℕ
row t = replicate (8 - length (leading t)) 0 ++ map bare (leading t)

module _ (t : List ℕ) (h : Bytes t) (size : length t ≡ 8) where
  few : length (leading t) ≤ 8
  few = omega (arith, leading_le t)

  front : take (length (leading t)) (map bare t) ≡ map bare (leading t)
  front =
      let n = length (leading t) in
      let whole : t ≡ leading t ++ drop n t = sym (take-append-drop n t) ∙ ap (λ l. l ++ drop n t) (leading_front t) in
      ap (λ l. take n (map bare l)) whole ∙ ap (take n) (map-append bare (leading t) (drop n t)) ∙ take_at (map bare (leading t)) (map bare (drop n t)) n (length-map (leading t) bare)

  shifted : number (map bare t) * 2 ^ (64 - 8 * length (leading t)) % 2 ^ 64 ≡ number (row t)
  shifted =
      let n = length (leading t) in
      let p : 64 - 8 * n ≡ 8 * (8 - n) = omega (arith, few) in
      let q : 64 ≡ 8 * n + 8 * (8 - n) = omega (arith, few) in
      ap₂ (λ (i j : ℕ). number (map bare t) * 2 ^ i % 2 ^ j) p q
      ∙ number_shift (8 - n) n (map bare t) (xor_bytes 48 t (omega arith) h)
      ∙ ap (λ l. number l * 2 ^ (8 * (8 - n))) front
      ∙ sym (number_zeros (8 - n) (map bare (leading t)))

  row_small : Small (row t)
  row_small = zeros_small (8 - length (leading t)) (map bare (leading t)) (bare_small 0 (or_zero (behind 0 (leading t))) (leading t) (leading_value 0 t))

  row_placed : placed 0 (row t) ≡ or_zero (behind 0 (leading t))
  row_placed = zeros_placed (8 - length (leading t)) (map bare (leading t)) ∙ bare_placed 0 (or_zero (behind 0 (leading t))) (leading t) (leading_value 0 t)

  row_back : little_endian (number (row t)) ≡ row t
  row_back =
      let l : length (row t) ≡ 8 = simp (length-append, length-replicate, length-map) (omega (arith, few)) in
      let z : 8 - length (row t) ≡ 0 = omega arith in
      bytes_back 7 (row t) (λ i. record { fits = omega (arith, row_small i) }) (omega arith) ∙ ap (λ k. row t ++ replicate k 0) z ∙ append-nil (row t)

-- of a word, n of them
module _ (w n : ℕ) (h : w < 2 ^ 64) (e : n ≡ length (leading (little_endian w))) where
  pub at_most_eight : n ≤ 8
  at_most_eight = omega (arith, few (little_endian w) (bytes_fit 7 w h) (length_bytes 7 w))

  lanes : little_endian (bit_xor w 3472328296227680304 * 2 ^ (64 - 8 * n) % 2 ^ 64) ≡ row (little_endian w)
  unfolding bytes same
  lanes =
      let x : bit_xor w 3472328296227680304 ≡ number (map bare (little_endian w)) = rw number_back at (xor_number 48 (little_endian w) (omega arith) (bytes_fit 7 w h)) in
      ap₂ (λ (v k : ℕ). little_endian (v * 2 ^ (64 - 8 * k) % 2 ^ 64)) x e
      ∙ ap little_endian (shifted (little_endian w) (bytes_fit 7 w h) refl)
      ∙ row_back (little_endian w) (bytes_fit 7 w h) refl

  pub lanes_small : Small (little_endian (bit_xor w 3472328296227680304 * 2 ^ (64 - 8 * n) % 2 ^ 64))
  lanes_small = rw lanes (row_small (little_endian w) (bytes_fit 7 w h) (length_bytes 7 w))

  pub lanes_make : (r : ℕ) → r ≡ placed 0 (little_endian (bit_xor w 3472328296227680304 * 2 ^ (64 - 8 * n) % 2 ^ 64)) → r ≡ or_zero (behind 0 (leading (little_endian w)))
  lanes_make r q = q ∙ ap (placed 0) lanes ∙ row_placed (little_endian w) (bytes_fit 7 w h) (length_bytes 7 w)

-- what a word's first digits make
abbrev pub first_value : ℕ → ℕ
first_value w = or_zero (behind 0 (leading (little_endian w)))

-- `first_digits`' ways out
module _ (w n : ℕ) (e : n ≡ length (leading (little_endian w))) where
  pub no_first : n ≡ 0 → None ≡ first_digits w
  unfolding first_digits
  no_first z = rw (← e, z) refl

  pub some_first : (v : ℕ) → (n ≡ 0 → ⊥) → v ≡ first_value w → Some (record { count = n; value = v }) ≡ first_digits w
  unfolding first_digits
  some_first v some f = rw (← e, ← f, ne_eqb n 0 some) refl

-- what an answer says
pub first_told : (w : ℕ) (r : FirstDigits) → Some r ≡ first_digits w → (r.count ≡ length (leading (little_endian w))) × (r.count ≡ 0 → ⊥) × (r.value ≡ first_value w)
unfolding first_digits
first_told w r f = go (eqb (length d) 0) refl (sym f)
  where
    d : List ℕ
    d = leading (little_endian w)

    go : (z : Bool) → eqb (length d) 0 ≡ z → cond {A = Option FirstDigits} z None (Some (record { count = length d; value = or_zero (behind 0 d) })) ≡ Some r
        → (r.count ≡ length d) × (r.count ≡ 0 → ⊥) × (r.value ≡ or_zero (behind 0 d))
    go true h g = absurd (none-some r g)
    go false h g =
        let x : length d ≡ r.count = ap (λ o. (unwrap_or o r).count) g in
        (sym x, λ z. eqb-false (length d) 0 h (x ∙ z), sym (ap (λ o. (unwrap_or o r).value) g))

-- of a text's bytes as a word
zeros_behind : (k : ℕ) (s : List ℕ) → leading (s ++ replicate k 0) ≡ leading s
unfolding leading
zeros_behind zero [] = refl
zeros_behind (suc k) [] = refl
zeros_behind k (b ∷ s) = rw (zeros_behind k s)

pub first_of : (s : List ℕ) → Bytes s → length s ≤ 8 → leading (little_endian (number s)) ≡ leading s
first_of s h l = ap leading (bytes_back 7 s h l) ∙ zeros_behind (8 - length s) s
