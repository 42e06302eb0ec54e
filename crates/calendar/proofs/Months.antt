-- The months make the year, and none is longer than 31 days. Assumes nothing.
use mathlib.Core.Path.{◌≡◌, refl, ◌∙◌}
use mathlib.Core.Bool.{Bool, true, false, cond, ◌&&◌, ◌||◌}
use Prim.Native.Nat.{ℕ, zero, suc, ◌+◌, ◌*◌, ◌≤◌}
use native.Mathlib.Omega.{arith}
use mir.Val.{bool_byte}
use borrow.Author.Tests.{ne_eqb, lt-ltb}
use mathlib.Core.List.{[], ◌∷◌}
use lib.Dec.{eqb, ltb, lit≤}
use lib.ListN.{get_or}
use Rattle.calendar.specs.Calendar.{is_leap, year_length, month_length, total}
use Rattle.calendar.proofs.Table.{values, at}

-- the twelve months (and month 0, which is none) make the year
pub months_make_the_year : (y : ℕ) → total (month_length (is_leap y)) 13 ≡ year_length y
unfolding total
months_make_the_year y = go (is_leap y)
  where
    go : (leap : Bool) → total (month_length leap) 13 ≡ cond leap 366 365
    go true = refl
    go false = refl

-- no month is longer than 31 days
month_short : (leap : Bool) (m : ℕ) → month_length leap m ≤ 31
month_short leap m = zeroth (eqb m 0)
  where
    most : (b : Bool) → cond b 30 31 ≤ 31
    most true = lit≤ tt
    most false = lit≤ tt

    february : (leap : Bool) → cond leap 29 28 ≤ 31
    february true = lit≤ tt
    february false = lit≤ tt

    second : (b : Bool) → cond b (cond leap 29 28) (cond (eqb m 4 || eqb m 6 || eqb m 9 || eqb m 11) 30 31) ≤ 31
    second true = february leap
    second false = most (eqb m 4 || eqb m 6 || eqb m 9 || eqb m 11)

    zeroth : (b : Bool) → cond b 0 (cond (eqb m 2) (cond leap 29 28) (cond (eqb m 4 || eqb m 6 || eqb m 9 || eqb m 11) 30 31)) ≤ 31
    zeroth true = lit≤ tt
    zeroth false = second (eqb m 2)

pub month_bound : (leap : Bool) (m : ℕ) → total (month_length leap) m ≤ 31 * m
unfolding total
month_bound leap zero = lit≤ tt
month_bound leap (suc m) = omega (arith, month_bound leap m, month_short leap m)

-- the days before a month of a leap year: the leap day comes before March
leap_days : (leap : Bool) (m : ℕ) → total (month_length leap) m ≡ total (month_length false) m + bool_byte (leap && ltb 2 m)
unfolding total
leap_days false m = omega arith
leap_days true zero = refl
leap_days true (suc zero) = refl
leap_days true (suc (suc zero)) = refl
leap_days true (suc (suc (suc zero))) = refl
leap_days true (suc (suc (suc (suc m)))) =
    let same : month_length true (suc (suc (suc m))) ≡ month_length false (suc (suc (suc m))) = simp (ne_eqb (suc (suc (suc m))) 2 (λ e. omega arith)) in
    let before : total (month_length true) (suc (suc (suc m))) ≡ total (month_length false) (suc (suc (suc m))) + 1 =
    leap_days true (suc (suc (suc m))) ∙ rw (lt-ltb 2 (suc (suc (suc m))) (omega arith)) in
    rw (lt-ltb 2 (suc (suc (suc (suc m)))) (omega arith)) (omega arith)

-- the table's entry with the leap day
pub month_table : (leap b : Bool) (m n : ℕ) → m ≤ 12 → b ≡ leap && ltb 2 m → n ≡ bool_byte b
    → get_or (0 ∷ 0 ∷ 31 ∷ 59 ∷ 90 ∷ 120 ∷ 151 ∷ 181 ∷ 212 ∷ 243 ∷ 273 ∷ 304 ∷ 334 ∷ []) m 0 + n ≡ total (month_length leap) m
unfolding values total
month_table leap b m n h e f =
    rw (f, e) (omega (arith, at (total (month_length false)) 13 m (omega arith), leap_days leap m))
