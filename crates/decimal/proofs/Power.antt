-- Laws of the powers of ten.
use mathlib.Core.Path.{◌≡◌, refl, sym}
use Prim.Native.Nat.{ℕ, ◌+◌, ◌*◌, ◌^◌, ◌≤◌, ◌<◌}
use native.Mathlib.Nat.{pow-suc, pow-le-pow_right}
use native.Mathlib.Numerals.{add-one}
use native.Mathlib.Omega.{arith}
use mir.Syntax.{w64}
use mir.Val.{Fits}

-- the next power
pub next_power : (k p : ℕ) → p ≡ 10 ^ k → p * 10 ≡ 10 ^ (k + 1)
next_power k p e = rw (e, add-one) (sym (pow-suc 10 k))

-- a power up to the nineteenth is below 2 ^ 64
pub power_small : (k : ℕ) → k ≤ 19 → 10 ^ k < 2 ^ 64
power_small k h = let m : 10 ^ k ≤ 10 ^ 19 = pow-le-pow_right (omega arith) h in omega arith

pub power_fits : (k p : ℕ) → p ≡ 10 ^ k → k < 19 → Fits w64 (p * 10)
power_fits k p e h = record { fits = omega (arith, next_power k p e, power_small (k + 1) (omega arith)) }

-- a digit behind a number of k digits makes one of k + 1
pub digit_behind : (k v d : ℕ) → v < 10 ^ k → d < 10 → v * 10 + d < 10 ^ (k + 1)
digit_behind k v d h l = omega (arith, next_power k (10 ^ k) refl)
