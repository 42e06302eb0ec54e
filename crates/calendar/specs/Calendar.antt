-- The Gregorian calendar (01, Dates: Gregorian, UTC, year 0 valid). Days are counted from 0000-01-01.
use Rattle.std.specs.Prelude.{ℕ, zero, suc, ◌+◌, ◌-◌, ◌*◌, ◌%◌, Bool, cond, not, ◌&&◌, ◌||◌, leb, eqb, Option, Some, None}
use Rattle.calendar.specs.declared.Date.{Date}

-- every fourth year is a leap year, but of the hundreds only every fourth
abbrev pub is_leap : ℕ → Bool
is_leap y = eqb (y % 4) 0 && not (eqb (y % 100) 0) || eqb (y % 400) 0

abbrev pub year_length : ℕ → ℕ
year_length y = cond (is_leap y) 366 365

-- the months from 1; there is no month 0
abbrev pub month_length : Bool → ℕ → ℕ
month_length leap m =
    cond (eqb m 0) 0
    (cond (eqb m 2) (cond leap 29 28)
    (cond (eqb m 4 || eqb m 6 || eqb m 9 || eqb m 11) 30 31))

-- f 0 + .. + f (n - 1)
unfoldable pub total : (ℕ → ℕ) → ℕ → ℕ
total f zero = 0
total f (suc n) = total f n + f n

-- months 1 to 12, days from 1 to the month's length
abbrev pub is_date : Date → Bool
is_date d = leb 1 d.month && leb d.month 12 && leb 1 d.day && leb d.day (month_length (is_leap d.year) d.month)

-- the days from 0000-01-01 to the date: those of the years, the months and the days before it
abbrev pub days_before : Date → ℕ
days_before d = total year_length d.year + total (month_length (is_leap d.year)) d.month + (d.day - 1)

-- the days before the date, where there is such a date
abbrev pub days_of : Date → Option ℕ
days_of d = cond (is_date d) (Some (days_before d)) None

-- 01, Dates: "entry y is 365 times y plus the leap years below y, year 0 being one"
abbrev pub one : Bool → ℕ
one b = cond b 1 0

abbrev pub entry : ℕ → ℕ
entry y = 365 * y + total (λ (k : ℕ). one (is_leap k)) y
