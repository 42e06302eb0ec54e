-- Bytes as a number, and back; shifts and remainders of it. Assumes nothing.
use mathlib.Core.Path.{◌≡◌, refl, sym, ap, ◌∙◌}
use mathlib.Core.List.{List, [], ◌∷◌, ◌++◌}
use Prim.Native.Nat.{ℕ, zero, suc, ◌+◌, ◌-◌, ◌*◌, ◌/◌, ◌%◌, ◌^◌, ◌≤◌, ◌<◌}
use native.Mathlib.Nat.{zero-div, zero-mod, mul-mod_left}
use native.Mathlib.Omega.{arith}
use mir.Syntax.{w8, w64}
use mir.Val.{Fits}
use lib.ListN.{length, get_or, take, drop, replicate}
use lib.Pow.{pow-add, shl-shr, shr-shr, mod-pow-add, shr_lt}
use lib.Seq.{get_or-drop}
use Rattle.std.specs.Int.{from_le_bytes, to_le_bytes}
use Rattle.word.specs.Word.{bytes, little_endian, number}

pub length_bytes : (n v : ℕ) → length (bytes n v) ≡ suc n
unfolding bytes
length_bytes zero v = refl
length_bytes (suc n) v = ap suc (length_bytes n (v / 256))

-- the bytes of a number are read as that number
pub number_back : (n v : ℕ) → number (bytes n v) ≡ v
unfolding bytes number
number_back zero v = omega arith
number_back (suc n) v = rw (number_back n (v / 256)) (omega arith)

-- each of a list is a byte
abbrev pub Bytes : List ℕ → Type 0
Bytes s = (i : ℕ) → Fits w8 (get_or s i 0)

pub drop_bytes : (n : ℕ) (s : List ℕ) → Bytes s → Bytes (drop n s)
drop_bytes n s h i = rw (get_or-drop n s i 0) (h (n + i))

pub take_bytes : (n : ℕ) (s : List ℕ) → Bytes s → Bytes (take n s)
take_bytes zero s h i = record { fits = omega arith }
take_bytes (suc n) [] h i = record { fits = omega arith }
take_bytes (suc n) (b ∷ s) h zero = h 0
take_bytes (suc n) (b ∷ s) h (suc i) = take_bytes n s (λ j. h (suc j)) i

next_byte : (k : ℕ) → 8 * suc k ≡ 8 * k + 8
next_byte k = omega arith

-- the last one too, where the number has no more
pub bytes_fit : (n v : ℕ) → v < 2 ^ (8 * suc n) → Bytes (bytes n v)
unfolding bytes
bytes_fit zero v h zero = record { fits = h }
bytes_fit zero v h (suc i) = record { fits = omega arith }
bytes_fit (suc n) v h zero = record { fits = omega arith }
bytes_fit (suc n) v h (suc i) = bytes_fit n (v / 256) (shr_lt (8 * suc n) 8 (rw next_byte at h)) i

-- the k lowest bytes are shifted out, and they are the remainder
pub number_drop : (k : ℕ) (s : List ℕ) → Bytes s → number s / 2 ^ (8 * k) ≡ number (drop k s)
unfolding number
number_drop zero s h = omega arith
number_drop (suc k) [] h = zero-div (2 ^ (8 * suc k))
number_drop (suc k) (b ∷ s) h =
    let e : 8 * suc k ≡ 8 + 8 * k = omega arith in
    let q : (b + 256 * number s) / 256 ≡ number s = omega (arith, h 0) in
    rw e (sym (shr-shr (b + 256 * number s) 8 (8 * k)) ∙ rw q (number_drop k s (λ i. h (suc i))))

pub number_take : (k : ℕ) (s : List ℕ) → Bytes s → number s % 2 ^ (8 * k) ≡ number (take k s)
unfolding number
number_take zero s h = omega arith
number_take (suc k) [] h = zero-mod (2 ^ (8 * suc k))
number_take (suc k) (b ∷ s) h =
    let q : (b + 256 * number s) / 256 ≡ number s = omega (arith, h 0) in
    rw next_byte (mod-pow-add (b + 256 * number s) (8 * k) 8 ∙ rw (q, number_take k s (λ i. h (suc i))) (omega (arith, h 0)))

-- the byte at k
pub byte_at : (k : ℕ) (s : List ℕ) → Bytes s → number s / 2 ^ (8 * k) % 256 ≡ get_or s k 0
unfolding number
byte_at k s h =
    let z : k + 0 ≡ k = omega arith in
    rw (number_drop k s h) (lowest (drop k s) (drop_bytes k s h) ∙ get_or-drop k s 0 0 ∙ ap (λ n. get_or s n 0) z)
  where
    lowest : (l : List ℕ) → Bytes l → number l % 256 ≡ get_or l 0 0
    lowest [] b = refl
    lowest (c ∷ l) b = omega (arith, b 0)

-- k bytes of 0 come in below, and n are kept
pub number_shift : (k n : ℕ) (s : List ℕ) → Bytes s → number s * 2 ^ (8 * k) % 2 ^ (8 * n + 8 * k) ≡ number (take n s) * 2 ^ (8 * k)
number_shift k n s h =
    mod-pow-add (number s * 2 ^ (8 * k)) (8 * n) (8 * k)
    ∙ rw (shl-shr (number s) (8 * k), mul-mod_left (number s) (2 ^ (8 * k)), number_take n s h) (omega arith)

pub number_zeros : (k : ℕ) (s : List ℕ) → number (replicate k 0 ++ s) ≡ number s * 2 ^ (8 * k)
unfolding number
number_zeros zero s = omega arith
number_zeros (suc k) s = rw (next_byte, pow-add 2 (8 * k) 8, number_zeros k s) (omega arith)

-- as many bytes bound it
pub number_bound : (s : List ℕ) → Bytes s → number s < 2 ^ (8 * length s)
unfolding number
number_bound [] h = omega arith
number_bound (b ∷ s) h = rw (next_byte, pow-add 2 (8 * length s) 8) (omega (arith, h 0, number_bound s (λ i. h (suc i))))

-- bytes are those of the number that they are, with 0 for each that is not there
zeros : (n : ℕ) → bytes n 0 ≡ replicate (suc n) 0
unfolding bytes
zeros zero = refl
zeros (suc n) = ap (λ s. 0 ∷ s) (zeros n)

pub bytes_back : (n : ℕ) (s : List ℕ) → Bytes s → length s ≤ suc n → bytes n (number s) ≡ s ++ replicate (suc n - length s) 0
unfolding bytes number
bytes_back n [] h l = let e : suc n - 0 ≡ suc n = omega arith in rw e (zeros n)
bytes_back zero (b ∷ []) h l = let e : b + 256 * 0 ≡ b = omega arith in rw e
bytes_back zero (b ∷ c ∷ s) h l = absurd (let f : ⊥ = omega arith in f)
bytes_back (suc n) (b ∷ s) h l =
    let low : (b + 256 * number s) % 256 ≡ b = omega (arith, h 0) in
    let rest : (b + 256 * number s) / 256 ≡ number s = omega (arith, h 0) in
    let e : suc (suc n) - suc (length s) ≡ suc n - length s = omega arith in
    rw (low, rest, e, bytes_back n s (λ i. h (suc i)) (omega arith))

-- code divides once where the definition divides again and again
pub eight : (v : ℕ)
    → v % 256 ∷ v / 256 % 256 ∷ v / 65536 % 256 ∷ v / 16777216 % 256 ∷ v / 4294967296 % 256 ∷ v / 1099511627776 % 256 ∷ v / 281474976710656 % 256 ∷ v / 72057594037927936 ∷ []
    ≡ little_endian v
unfolding bytes
eight v =
    let d2 : v / 65536 ≡ v / 256 / 256 = omega arith in
    let d3 : v / 16777216 ≡ v / 65536 / 256 = omega arith in
    let d4 : v / 4294967296 ≡ v / 16777216 / 256 = omega arith in
    let d5 : v / 1099511627776 ≡ v / 4294967296 / 256 = omega arith in
    let d6 : v / 281474976710656 ≡ v / 1099511627776 / 256 = omega arith in
    let d7 : v / 72057594037927936 ≡ v / 281474976710656 / 256 = omega arith in
    rw (d7, d6, d5, d4, d3, d2)

pub four : (v : ℕ) → v % 256 ∷ v / 256 % 256 ∷ v / 65536 % 256 ∷ v / 16777216 ∷ [] ≡ bytes 3 v
unfolding bytes
four v =
    let d2 : v / 65536 ≡ v / 256 / 256 = omega arith in
    let d3 : v / 16777216 ≡ v / 65536 / 256 = omega arith in
    rw (d3, d2)

-- the library's conversions of eight bytes
pub read_le : (b : List ℕ) → length b ≡ 8 → from_le_bytes w64 b ≡ number b
unfolding number
read_le [] h = absurd (let f : ⊥ = omega arith in f)
read_le (x0 ∷ []) h = absurd (let f : ⊥ = omega arith in f)
read_le (x0 ∷ x1 ∷ []) h = absurd (let f : ⊥ = omega arith in f)
read_le (x0 ∷ x1 ∷ x2 ∷ []) h = absurd (let f : ⊥ = omega arith in f)
read_le (x0 ∷ x1 ∷ x2 ∷ x3 ∷ []) h = absurd (let f : ⊥ = omega arith in f)
read_le (x0 ∷ x1 ∷ x2 ∷ x3 ∷ x4 ∷ []) h = absurd (let f : ⊥ = omega arith in f)
read_le (x0 ∷ x1 ∷ x2 ∷ x3 ∷ x4 ∷ x5 ∷ []) h = absurd (let f : ⊥ = omega arith in f)
read_le (x0 ∷ x1 ∷ x2 ∷ x3 ∷ x4 ∷ x5 ∷ x6 ∷ []) h = absurd (let f : ⊥ = omega arith in f)
read_le (x0 ∷ x1 ∷ x2 ∷ x3 ∷ x4 ∷ x5 ∷ x6 ∷ x7 ∷ []) h = omega arith
read_le (x0 ∷ x1 ∷ x2 ∷ x3 ∷ x4 ∷ x5 ∷ x6 ∷ x7 ∷ x8 ∷ l) h = absurd (let f : ⊥ = omega arith in f)

pub written_le : (v : ℕ) → v < 2 ^ 64 → to_le_bytes w64 v ≡ little_endian v
unfolding bytes
written_le v h =
    let top : v / 72057594037927936 % 256 ≡ v / 72057594037927936 = omega arith in
    rw top (eight v)
