-- How many days there are: to 1970, in the years 0 to 9999, and that each date lies within its year. Assumes nothing.
use mathlib.Core.Path.{◌≡◌, refl}
use mathlib.Core.Bool.{Bool, true, false, ◌&&◌, false≢true}
use Prim.Native.Nat.{ℕ, zero, suc, ◌+◌, ◌-◌, ◌≤◌, ◌<◌}
use native.Mathlib.Nat.{le_refl}
use native.Mathlib.Omega.{arith}
use lib.Dec.{leb}
use borrow.Author.Tests.{leb-true}
use Rattle.calendar.specs.Calendar.{is_leap, year_length, month_length, total, is_date, days_before}
use Rattle.calendar.specs.declared.Date.{Date}
use Rattle.calendar.proofs.Years.{cycles}
use Rattle.calendar.proofs.Months.{months_make_the_year}

-- 01, Dates: from 0000-01-01 to 1970-01-01 are 719528 days
pub days_to_1970 : days_before record { year = 1970; month = 1; day = 1 } ≡ 719528
unfolding total
days_to_1970 = refl

-- a sum grows with the number of its terms
more : (f : ℕ → ℕ) (m k : ℕ) → total f m ≤ total f (m + k)
unfolding total
more f m zero = let z : m + 0 ≡ m = omega arith in rw z (le_refl (total f m))
more f m (suc k) = let z : m + suc k ≡ suc (m + k) = omega arith in rw z (omega (arith, more f m k))

pub grows : (f : ℕ → ℕ) (m n : ℕ) → m ≤ n → total f m ≤ total f n
grows f m n h = let z : m + (n - m) ≡ n = omega arith in rw z at (more f m (n - m))

-- four tests that hold together hold each
each : (a b c d : Bool) → a && b && c && d ≡ true → (a ≡ true) × (b ≡ true) × (c ≡ true) × (d ≡ true)
each true true true d e = (refl, refl, refl, e)
each true true false d e = absurd (false≢true e)
each true false c d e = absurd (false≢true e)
each false b c d e = absurd (false≢true e)

module _ (d : Date) (valid : is_date d ≡ true) where
  tests : (leb 1 d.month ≡ true) × (leb d.month 12 ≡ true) × (leb 1 d.day ≡ true)
      × (leb d.day (month_length (is_leap d.year) d.month) ≡ true)
  tests = each (leb 1 d.month) (leb d.month 12) (leb 1 d.day) (leb d.day (month_length (is_leap d.year) d.month)) valid

  pub month_most : d.month ≤ 12
  month_most = leb-true d.month 12 tests.1

  pub day_least : 1 ≤ d.day
  day_least = leb-true 1 d.day tests.2

  pub day_most : d.day ≤ month_length (is_leap d.year) d.month
  day_most = leb-true d.day (month_length (is_leap d.year) d.month) tests.3

  -- a date lies before the end of its year
  pub within_year : days_before d < total year_length (suc d.year)
  unfolding total
  within_year =
      omega (arith, month_most, day_least, day_most, months_make_the_year d.year, grows (month_length (is_leap d.year)) (suc d.month) 13 (omega (arith, month_most)))

  -- the years 0 to 9999 have 3652425 days
  pub within_years : d.year ≤ 9999 → days_before d < 3652425
  unfolding total
  within_years h = omega (arith, within_year, grows year_length (suc d.year) 10000 (omega arith), cycles 25 0)
