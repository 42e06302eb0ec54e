-- The years: the count meets the rule of the table, and it repeats every 400 years. Assumes nothing.
use mathlib.Core.Path.{◌≡◌, refl, sym, ap, ◌∙◌}
use mathlib.Core.Bool.{Bool, true, false, cond}
use Prim.Native.Nat.{ℕ, zero, suc, ◌+◌, ◌*◌, ◌/◌, ◌%◌, ◌≤◌}
use native.Mathlib.Nat.{zero-mul, zero-add}
use native.Mathlib.Omega.{arith}
use lib.Dec.{lit≤}
use Rattle.calendar.specs.Calendar.{is_leap, year_length, total, one, entry}

-- 01's rule of the table's entries is the count of the days
pub entry_counts : (y : ℕ) → entry y ≡ total year_length y
unfolding total
entry_counts zero = refl
entry_counts (suc y) = go (is_leap y) (entry_counts y)
  where
    go : (b : Bool) → 365 * y + total (λ (k : ℕ). one (is_leap k)) y ≡ total year_length y
        → 365 * suc y + (total (λ (k : ℕ). one (is_leap k)) y + one b) ≡ total year_length y + cond b 366 365
    go true e = omega arith
    go false e = omega arith

-- a year is as long as the one 400 years before it
same_length : (y : ℕ) → year_length (y + 400) ≡ year_length y
same_length y =
    let a : (y + 400) % 4 ≡ y % 4 = omega arith in
    let b : (y + 400) % 100 ≡ y % 100 = omega arith in
    let c : (y + 400) % 400 ≡ y % 400 = omega arith in
    rw (a, b, c)

-- 400 years have 146097 days, whichever they are
pub four_hundred : (y : ℕ) → total year_length (y + 400) ≡ 146097 + total year_length y
unfolding total
four_hundred zero = refl
four_hundred (suc y) =
    let z : suc y + 400 ≡ suc (y + 400) = omega arith in
    rw z (omega (arith, four_hundred y, same_length y))

-- whole cycles, and the years after them
pub cycles : (c r : ℕ) → total year_length (c * 400 + r) ≡ c * 146097 + total year_length r
cycles zero r = simp (zero-mul, zero-add)
cycles (suc c) r =
    let z : suc c * 400 + r ≡ c * 400 + r + 400 = omega arith in
    rw z (omega (arith, four_hundred (c * 400 + r), cycles c r))

-- the table's rule gives the days before any year
pub by_table : (y e : ℕ) → e ≡ total year_length (y % 400) → y / 400 * 146097 + e ≡ total year_length y
by_table y e h =
    let z : y / 400 * 400 + y % 400 ≡ y = omega arith in
    ap (λ (n : ℕ). y / 400 * 146097 + n) h ∙ sym (cycles (y / 400) (y % 400)) ∙ ap (total year_length) z

-- no year is longer than 366 days
pub year_bound : (y : ℕ) → total year_length y ≤ 366 * y
unfolding total
year_bound zero = lit≤ tt
year_bound (suc y) = go (is_leap y) (year_bound y)
  where
    go : (b : Bool) → total year_length y ≤ 366 * y → total year_length y + cond b 366 365 ≤ 366 * suc y
    go true h = omega arith
    go false h = omega arith
