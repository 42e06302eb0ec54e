-- `second_of` and `timestamp_of` are inverse on the range, each way, and a timestamp's bits give it back. Assumes nothing.
use Rattle.std.proofs.Common.{◌≡◌, ℕ, zero, suc, ◌+◌, ◌-◌, ◌*◌, ◌^◌, ◌<◌, ◌≤◌, Bool, true, false, cond, not, T, ltb, leb, pos, negsuc, sym, refl, ap, ◌∙◌, subst, mul-pos, arith, ltb-false, ltb-true, le-ltb, lt-ltb, le-leb, leb-true}
use lib.Count.{count_trailing_zeros}
use lib.Ieee.{Float, nan, inf, fin, binary64, up, down, lt, neg, fits, in_unsigned, to_unsigned, whole, of_int, round, size, span, climb, units, odd}
use lib.Ieee.Fits.{down_pos, neg-fits}
use lib.Ieee.Exact.{HasValue}
use lib.Ieee.Back.{round_whole, unsigned_back, Float-back_unsigned}
use Rattle.seconds.specs.Seconds.{whole_number, before1970, since1970, second_of, timestamp_of, is_timestamp, if_timestamp, timestamp_of_bits}
use Rattle.std.specs.Prelude.{is_some, Some, None, Option}
use lib.Ieee.{to_bits, is_nan}
use lib.Ieee.Bits.{of_bits-to_bits}
use Rattle.seconds.proofs.Whole.{exact}

abbrev zero_float : Float
zero_float = fin false 0 (pos 0)

neg_neg : (x : Float) → neg (neg x) ≡ x
unfolding neg
neg_neg nan = refl
neg_neg (inf true) = refl
neg_neg (inf false) = refl
neg_neg (fin true m e) = refl
neg_neg (fin false m e) = refl

never : {o : ℕ} → None ≡ Some o → ⊥
never w = let z : ◌≡◌ {A = ℕ} 0 1 = cc in omega arith

value : (n : ℕ) → n ≤ 2 ^ 53 → HasValue (of_int binary64 (pos n)) false n 1
unfolding of_int
value n h = round_whole binary64 false n h

-- a whole number is not below 0, and the negative of one that is not 0 is
from_zero : (x : Float) (n : ℕ) → HasValue x false n 1 → lt x zero_float ≡ false
unfolding lt
from_zero nan n h = absurd h
from_zero (inf s) n h = absurd h
from_zero (fin true m e) n h = absurd (let z : true ≡ false = h.0 in subst (λ (b : Bool). T b) z tt)
from_zero (fin false m e) n h = le-ltb (m * up e * 1) (0 * 1 * down e) (omega arith)

under_zero : (x : Float) (n : ℕ) → 0 < n → HasValue x false n 1 → lt (neg x) zero_float ≡ true
unfolding lt neg
under_zero nan n p h = absurd h
under_zero (inf s) n p h = absurd h
under_zero (fin true m e) n p h = absurd (let z : true ≡ false = h.0 in subst (λ (b : Bool). T b) z tt)
under_zero (fin false m e) n p h =
    lt-ltb 0 (m * up e * 1 + 0 * 1 * down e)
    (let v : m * up e * 1 ≡ n * down e = h.1 in
    let q : 0 < n * down e = mul-pos p (down_pos e) in
    omega arith)

counts : (n : ℕ) → n ≤ 2 ^ 53 → whole_number (of_int binary64 (pos n)) ≡ Some n
counts n h =
    let b = unsigned_back binary64 64 n (exact n h) (omega arith) in
    go (in_unsigned binary64 64 (of_int binary64 (pos n))) b.0 ∙ ap Some b.1
  where
    go : (t : Bool) → T t → cond t (Some (to_unsigned 64 (of_int binary64 (pos n)))) None ≡ Some (to_unsigned 64 (of_int binary64 (pos n)))
    go true t = refl
    go false t = absurd t

of_before : (n : ℕ) → 0 < n → n ≤ 62167219200 → second_of (neg (of_int binary64 (pos n))) ≡ Some (62167219200 - n)
unfolding second_of
of_before n p h =
    let x = of_int binary64 (pos n) in
    let k : n ≤ 2 ^ 53 = omega arith in
    simp (under_zero x n p (value n k), neg_neg x, counts n k, le-leb n 62167219200 h)

of_since : (n : ℕ) → n ≤ 253402300799 → second_of (of_int binary64 (pos n)) ≡ Some (62167219200 + n)
unfolding second_of
of_since n h =
    let x = of_int binary64 (pos n) in
    let k : n ≤ 2 ^ 53 = omega arith in
    simp (from_zero x n (value n k), counts n k, le-leb n 253402300799 h)

at_before : (o : ℕ) → o < 62167219200 → timestamp_of o ≡ neg (of_int binary64 (pos (62167219200 - o)))
unfolding timestamp_of
at_before o h = simp (lt-ltb o 62167219200 h)

at_since : (o : ℕ) → 62167219200 ≤ o → timestamp_of o ≡ of_int binary64 (pos (o - 62167219200))
unfolding timestamp_of
at_since o h = simp (le-ltb o 62167219200 h)

-- a second, as a timestamp and back: every second of the range has its timestamp, and no two the same
pub second_of_timestamp : (o : ℕ) → o < 315569520000 → second_of (timestamp_of o) ≡ Some o
second_of_timestamp o h = go (ltb o 62167219200) refl
  where
    go : (b : Bool) → ltb o 62167219200 ≡ b → second_of (timestamp_of o) ≡ Some o
    go true e =
        let a : o < 62167219200 = ltb-true o 62167219200 e in
        let z : 62167219200 - (62167219200 - o) ≡ o = omega arith in
        ap second_of (at_before o a) ∙ of_before (62167219200 - o) (omega arith) (omega arith) ∙ ap Some z
    go false e =
        let a : 62167219200 ≤ o = ltb-false o 62167219200 e in
        let z : 62167219200 + (o - 62167219200) ≡ o = omega arith in
        ap second_of (at_since o a) ∙ of_since (o - 62167219200) (omega arith) ∙ ap Some z

-- -0 is not below 0
minus_zero : lt (neg (of_int binary64 (pos 0))) zero_float ≡ false
unfolding lt neg of_int
minus_zero = refl

found_before : (t : Float) (o n : ℕ) → T (fits binary64 t) → lt t zero_float ≡ true → of_int binary64 (pos n) ≡ neg t
    → (b : Bool) → leb n 62167219200 ≡ b → cond b (Some (62167219200 - n)) None ≡ Some o → (o < 315569520000) × (timestamp_of o ≡ t)
found_before t o zero held e is b le w =
    let z : true ≡ false = sym e ∙ ap (λ (x : Float). lt x zero_float) (sym (neg_neg t) ∙ ap neg (sym is)) ∙ minus_zero in
    absurd (subst T z tt)
found_before t o (suc n) held e is false le w = absurd (never w)
found_before t o (suc n) held e is true le w =
    let a : suc n ≤ 62167219200 = leb-true (suc n) 62167219200 le in
    let z : 62167219200 - suc n ≡ o = cc in
    let y : 62167219200 - o ≡ suc n = omega arith in
    (omega arith, at_before o (omega arith) ∙ ap neg (ap (λ (k : ℕ). of_int binary64 (pos k)) y ∙ is) ∙ neg_neg t)

found_since : (t : Float) (o n : ℕ) → of_int binary64 (pos n) ≡ t
    → (b : Bool) → leb n 253402300799 ≡ b → cond b (Some (62167219200 + n)) None ≡ Some o → (o < 315569520000) × (timestamp_of o ≡ t)
found_since t o n is false le w = absurd (never w)
found_since t o n is true le w =
    let a : n ≤ 253402300799 = leb-true n 253402300799 le in
    let z : 62167219200 + n ≡ o = cc in
    let y : o - 62167219200 ≡ n = omega arith in
    (omega arith, at_since o (omega arith) ∙ ap (λ (k : ℕ). of_int binary64 (pos k)) y ∙ is)

-- a timestamp, as a second and back: it is the float of a second of the range, and there are no other timestamps
pub timestamp_of_second : (t : Float) (o : ℕ) → T (fits binary64 t) → second_of t ≡ Some o → (o < 315569520000) × (timestamp_of o ≡ t)
unfolding second_of
timestamp_of_second t o held w = go (lt t zero_float) refl w
  where
    go_before : (b : Bool) → in_unsigned binary64 64 (neg t) ≡ b → lt t zero_float ≡ true
        → before1970 (cond b (Some (to_unsigned 64 (neg t))) None) ≡ Some o → (o < 315569520000) × (timestamp_of o ≡ t)
    go_before false e l w = absurd (never w)
    go_before true e l w =
        found_before t o (to_unsigned 64 (neg t)) held l (Float-back_unsigned binary64 64 (neg t) (neg-fits binary64 t held) (subst T (sym e) tt)).1
        (leb (to_unsigned 64 (neg t)) 62167219200) refl w

    go_since : (b : Bool) → in_unsigned binary64 64 t ≡ b
        → since1970 (cond b (Some (to_unsigned 64 t)) None) ≡ Some o → (o < 315569520000) × (timestamp_of o ≡ t)
    go_since false e w = absurd (never w)
    go_since true e w =
        found_since t o (to_unsigned 64 t) (Float-back_unsigned binary64 64 t held (subst T (sym e) tt)).1
        (leb (to_unsigned 64 t) 253402300799) refl w

    go : (b : Bool) → lt t zero_float ≡ b → cond b (before1970 (whole_number (neg t))) (since1970 (whole_number t)) ≡ Some o → (o < 315569520000) × (timestamp_of o ≡ t)
    go true e w = go_before (in_unsigned binary64 64 (neg t)) refl e w
    go false e w = go_since (in_unsigned binary64 64 t) refl w

-- the bits of a timestamp are read as that timestamp
pub timestamp_of_bits_lem : (t : Float) → T (fits binary64 t) → T (is_timestamp t) → timestamp_of_bits (to_bits binary64 t) ≡ Some t
unfolding timestamp_of_bits
timestamp_of_bits_lem t held h = ap if_timestamp (of_bits-to_bits binary64 t held) ∙ known (second_of t) h
  where
    known : (s : Option ℕ) → T (is_some s) → cond (is_some s) (Some t) None ≡ Some t
    known (Some o) h = refl
    known None h = absurd h

-- a timestamp is no NaN, so its bits may be taken
pub no_nan : (t : Float) → T (is_timestamp t) → T (not (is_nan t))
unfolding is_nan lt in_unsigned second_of
no_nan nan h = absurd h
no_nan (inf s) h = tt
no_nan (fin s m e) h = tt

-- no timestamps: NaN, the infinities, -0, a half, the second before the year 0 and the second after the year 9999
pub no_timestamps : (is_timestamp nan ≡ false) × (is_timestamp (inf true) ≡ false) × (is_timestamp (inf false) ≡ false)
    × (is_timestamp (fin true 0 (pos 0)) ≡ false) × (is_timestamp (fin false 1 (negsuc 0)) ≡ false)
    × (is_timestamp (neg (of_int binary64 (pos 62167219201))) ≡ false) × (is_timestamp (of_int binary64 (pos 253402300800)) ≡ false)
unfolding second_of lt neg in_unsigned to_unsigned whole of_int round size span climb units odd count_trailing_zeros
no_timestamps = (refl, refl, refl, refl, refl, refl, refl)

-- 0 is the start of 1970
pub zero_second : second_of (fin false 0 (pos 0)) ≡ Some 62167219200
unfolding second_of lt in_unsigned to_unsigned whole
zero_second = refl
