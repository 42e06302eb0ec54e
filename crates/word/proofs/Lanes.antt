-- A word's bits in lanes: what is done to all lanes at once is done to each. Assumes nothing.
use mathlib.Core.Path.{◌≡◌, refl, sym, ap, ◌∙◌}
use mathlib.Core.Bool.{Bool, true, false, ◌&&◌}
use mathlib.Core.List.{List, [], ◌∷◌, map}
use Prim.Native.Nat.{ℕ, zero, suc, ◌+◌, ◌-◌, ◌*◌, ◌/◌, ◌%◌, ◌^◌, ◌<◌}
use native.Mathlib.Nat.{zero-add, one-mul, suc-add, pow-succ'}
use native.Mathlib.Omega.{arith}
use lib.Arith.{digits_lt}
use lib.Bits.{bit_and, bit_xor, and_block, and_mask, xor_block, xor_lt}
use lib.Count.{count_trailing_zeros}
use lib.Pow.{pow-add, pow_mono, high, low, ones_lt}
use lib.Dec.{eqb}
use borrow.Author.Tests.{eqb-true, eqb-false}
use Rattle.word.specs.Word.{number}
use Rattle.word.proofs.Laws.{Bytes}

-- an operation that works on the low bits and the rest apart works on the lowest byte and the rest apart
pub lane : (op : ℕ → ℕ → ℕ) → ((k a b r s : ℕ) → r < 2 ^ k → s < 2 ^ k → op (a * 2 ^ k + r) (b * 2 ^ k + s) ≡ op a b * 2 ^ k + op r s)
    → (r s a b : ℕ) → r < 256 → s < 256 → op (r + 256 * a) (s + 256 * b) ≡ op r s + 256 * op a b
lane op block r s a b h k =
    let turned : (x y : ℕ) → x + 256 * y ≡ y * 256 + x = λ x y. omega arith in
    rw (turned r a, turned s b) (block 8 a b r s h k ∙ sym (turned (op r s) (op a b)))

-- the number that has the byte c in each lane, a lane for each byte of a list
unfoldable pub same : ℕ → List ℕ → ℕ
same c [] = 0
same c (b ∷ s) = c + 256 * same c s

-- the same bits changed in each byte
pub xor_bytes : (c : ℕ) (s : List ℕ) → c < 256 → Bytes s → Bytes (map (λ b. bit_xor b c) s)
xor_bytes c [] l h i = h i
xor_bytes c (b ∷ s) l h zero = record { fits = xor_lt 8 b c (h 0).fits l }
xor_bytes c (b ∷ s) l h (suc i) = xor_bytes c s l (λ j. h (suc j)) i

pub xor_number : (c : ℕ) (s : List ℕ) → c < 256 → Bytes s → bit_xor (number s) (same c s) ≡ number (map (λ b. bit_xor b c) s)
unfolding number same
xor_number c [] l h = refl
xor_number c (b ∷ s) l h = lane bit_xor xor_block b c (number s) (same c s) (h 0).fits l ∙ rw (xor_number c s l (λ i. h (suc i)))

-- what is tested of each number below n holds of each: so it is shown of a byte
unfoldable pub all_below : ℕ → (ℕ → Bool) → Bool
all_below zero p = true
all_below (suc n) p = p n && all_below n p

both : (a b : Bool) → a && b ≡ true → (a ≡ true) × (b ≡ true)
both true b e = (refl, e)
both false b e = let z : ◌≡◌ {A = ℕ} 0 1 = cc in absurd (omega arith)

pub all_below_lem : (n : ℕ) (p : ℕ → Bool) → all_below n p ≡ true → (i : ℕ) → i < n → p i ≡ true
unfolding all_below
all_below_lem zero p e i h = absurd (omega arith)
all_below_lem (suc n) p e i h = go (eqb i n) refl (all_below_lem n p (both (p n) (all_below n p) e).1 i)
  where
    go : (z : Bool) → eqb i n ≡ z → (i < n → p i ≡ true) → p i ≡ true
    go true f r = ap p (eqb-true i n f) ∙ (both (p n) (all_below n p) e).0
    go false f r = let other : i ≡ n → ⊥ = eqb-false i n f in r (omega arith)

-- the zeros below a number that is shifted, and below an odd one
pub trailing_shifted : (i k n : ℕ) → count_trailing_zeros (i + k) (2 ^ i * n) ≡ i + count_trailing_zeros k n
unfolding count_trailing_zeros
trailing_shifted zero k n = rw (zero-add k, one-mul n) (sym (zero-add (count_trailing_zeros k n)))
trailing_shifted (suc i) k n =
    let m = 2 ^ i * n in
    let twice : 2 ^ suc i * n ≡ 2 * m = rw (pow-succ' 2 i) (omega arith) in
    let even : 2 * m % 2 ≡ 0 = omega arith in
    let half : 2 * m / 2 ≡ m = omega arith in
    rw (suc-add i k, twice, even, half, trailing_shifted i k n) (sym (suc-add i (count_trailing_zeros k n)))

pub trailing_odd : (k n : ℕ) → count_trailing_zeros (suc k) (1 + 2 * n) ≡ 0
unfolding count_trailing_zeros
trailing_odd k n = let odd : (1 + 2 * n) % 2 ≡ 1 = omega arith in rw odd

-- Lanes of k bits, from the lowest x, y, z and the rest: the first two are joined to x * f + y in a lane of twice as many bits, and so are
-- the others.
pub joined : (k f x y z rest m : ℕ) → x < 2 ^ k → x * f + y < 2 ^ k → y * f + z < 2 ^ k
    → bit_and ((x + 2 ^ k * (y + 2 ^ k * (z + 2 ^ k * rest))) * f + (x + 2 ^ k * (y + 2 ^ k * (z + 2 ^ k * rest))) / 2 ^ k) (2 ^ k - 1 + 2 ^ k * 2 ^ k * m)
    ≡ x * f + y + 2 ^ k * 2 ^ k * bit_and ((z + 2 ^ k * rest) * f + (z + 2 ^ k * rest) / 2 ^ k) m
joined k f x y z rest m h u v =
    let p = 2 ^ k in
    let others = z + p * rest in
    let low-two = (y * f + z) * p + (x * f + y) in
    let shifted : (a b : ℕ) → a < p → (a + p * b) / p ≡ b = λ a b l. ap (λ n. n / p) (omega arith) ∙ high b k l in
    let square : 2 ^ (k + k) ≡ p * p = pow-add 2 k k in
    let small : low-two < 2 ^ (k + k) = rw square (digits_lt v u) in
    let ones : p - 1 < 2 ^ (k + k) = omega (arith, ones_lt k, pow_mono {i = k} {j = k + k} (omega arith)) in
    let sum : (x + p * (y + p * others)) * f + (x + p * (y + p * others)) / p ≡ (others * f + others / p) * 2 ^ (k + k) + low-two
    = rw (shifted x (y + p * others) h, shifted z rest (omega arith), square) (omega arith) in
    let mask : p - 1 + p * p * m ≡ m * 2 ^ (k + k) + (p - 1) = rw square (omega arith) in
    rw (sum, mask) (and_block (k + k) (others * f + others / p) m low-two (p - 1) small ones ∙ rw (and_mask low-two k, low (y * f + z) k u, square) (omega arith))
