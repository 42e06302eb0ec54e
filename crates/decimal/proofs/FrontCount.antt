-- How many digits are at the front of a word's bytes, told from all at once. Assumes nothing.
use Prim.Native.Nat.{ℕ, suc, ◌+◌, ◌*◌, ◌/◌, ◌^◌, ◌<◌}
use mathlib.Core.Path.{◌≡◌, refl}
use mathlib.Core.Bool.{Bool, true, false, cond}
use mathlib.Core.List.{List, [], ◌∷◌, map}
use native.Mathlib.Nat.{zero-add}
use native.Mathlib.Omega.{arith}
use lib.Bits.{bit_and, bit_or, bit_xor, and_block, or_block, xor_block, and_le_r, or_lt, xor_lt}
use lib.Count.{count_trailing_zeros}
use lib.ListN.{length}
use lib.Dec.{eqb}
use borrow.Author.Tests.{eqb-true}
use Rattle.word.specs.Word.{number, bytes, little_endian}
use Rattle.word.proofs.Laws.{Bytes, length_bytes, bytes_fit, number_back}
use Rattle.word.proofs.Lanes.{lane, same, all_below, all_below_lem, trailing_shifted, trailing_odd}
use Rattle.decimal.specs.Decimal.{is_digit, leading, mark}

-- the code's operations on one byte
abbrev byte_mark : ℕ → ℕ
byte_mark b = bit_and (bit_or (bit_and (bit_xor b 48) 127 + 118) (bit_xor b 48)) 128

byte_mark_lem : (b : ℕ) → b < 256 → byte_mark b ≡ mark b
unfolding all_below
byte_mark_lem b h = eqb-true (byte_mark b) (mark b) (all_below_lem 256 (λ c. eqb (byte_mark c) (mark c)) refl b h)

-- and on all
marked : (s : List ℕ) → Bytes s
    → bit_and (bit_or (bit_and (bit_xor (number s) (same 48 s)) (same 127 s) + same 118 s) (bit_xor (number s) (same 48 s))) (same 128 s) ≡ number (map mark s)
unfolding number same
marked [] h = refl
marked (b ∷ s) h =
    let x = bit_xor b 48 in
    let xs = bit_xor (number s) (same 48 s) in
    let l = bit_and x 127 in
    let ls = bit_and xs (same 127 s) in
    let o = bit_or (l + 118) x in
    let os = bit_or (ls + same 118 s) xs in
    let small : x < 256 = xor_lt 8 b 48 (h 0).fits (omega arith) in
    let room : l + 118 < 256 = omega (arith, and_le_r x 127) in
    let xor = lane bit_xor xor_block b 48 (number s) (same 48 s) (h 0).fits (omega arith) in
    let low = lane bit_and and_block x 127 xs (same 127 s) small (omega arith) in
    let sum : l + 256 * ls + (118 + 256 * same 118 s) ≡ l + 118 + 256 * (ls + same 118 s) = omega arith in
    let or = lane bit_or or_block (l + 118) x (ls + same 118 s) xs room small in
    let high = lane bit_and and_block o 128 os (same 128 s) (or_lt 8 (l + 118) x room small) (omega arith) in
    rw (xor, low, sum, or, high, byte_mark_lem b (h 0).fits, marked s (λ i. h (suc i)))

-- the first mark stands behind the digits
first_mark : (s : List ℕ) → count_trailing_zeros (8 * length s) (number (map mark s)) / 8 ≡ length (leading s)
unfolding number leading count_trailing_zeros
first_mark [] = refl
first_mark (b ∷ s) = go (is_digit b) (first_mark s)
  where
    go : (z : Bool) → count_trailing_zeros (8 * length s) (number (map mark s)) / 8 ≡ length (leading s)
        → count_trailing_zeros (8 * suc (length s)) (cond z 0 128 + 256 * number (map mark s)) / 8 ≡ length (cond z (b ∷ leading s) [])
    go true i =
        let k = 8 * length s in
        let m = number (map mark s) in
        let e : 8 * suc (length s) ≡ 8 + k = omega arith in
        rw (e, zero-add (256 * m), trailing_shifted 8 k m) (omega arith)
    go false i =
        let k = 8 * length s in
        let m = number (map mark s) in
        let e : 8 * suc (length s) ≡ 7 + suc k = omega arith in
        let f : 128 + 256 * m ≡ 128 * (1 + 2 * m) = omega arith in
        rw (e, f, trailing_shifted 7 (suc k) (1 + 2 * m), trailing_odd k m)

-- of a word: the constants are those of eight lanes
pub word_marks : (w : ℕ) → w < 2 ^ 64
    → bit_and (bit_or (bit_and (bit_xor w 3472328296227680304) 9187201950435737471 + 8536140394893047414) (bit_xor w 3472328296227680304)) 9259542123273814144 ≡ number (map mark (little_endian w))
unfolding bytes same
word_marks w h = rw number_back at (marked (little_endian w) (bytes_fit 7 w h))

pub word_count : (w m : ℕ) → m ≡ number (map mark (little_endian w)) → count_trailing_zeros 64 m / 8 ≡ length (leading (little_endian w))
word_count w m e = rw e (rw length_bytes at (first_mark (little_endian w)))
