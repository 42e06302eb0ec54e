-- What an answer of `days_of` tells of the date, for its callers. Assumes nothing.
use Rattle.std.specs.Prelude.{Option, Some, None}
use mathlib.Core.Path.{◌≡◌, refl, sym, ◌∙◌}
use mathlib.Core.Bool.{Bool, true, false, cond}
use Prim.Native.Nat.{ℕ, suc, ◌*◌, ◌<◌}
use native.Mathlib.Omega.{arith}
use Rattle.calendar.specs.Calendar.{is_date, days_before, days_of}
use Rattle.calendar.specs.declared.Date.{Date}
use Rattle.calendar.proofs.Years.{year_bound}
use Rattle.calendar.proofs.Range.{within_year}

module _ (d : Date) (r : Option ℕ) (e : r ≡ days_of d) where
  pub date_none : r ≡ None → is_date d ≡ false
  date_none f = go (is_date d) (sym f ∙ e)
    where
      go : (b : Bool) → None ≡ cond b (Some (days_before d)) None → b ≡ false
      go true g = let z : ◌≡◌ {A = ℕ} 0 1 = cc in absurd (omega arith)
      go false g = refl

  module _ (n : ℕ) (f : r ≡ Some n) where
    pub date_count : (is_date d ≡ true) × (n ≡ days_before d)
    date_count = go (is_date d) (sym f ∙ e)
      where
        go : (b : Bool) → Some n ≡ cond b (Some (days_before d)) None → (b ≡ true) × (n ≡ days_before d)
        go true g = (refl, cc)
        go false g = let z : ◌≡◌ {A = ℕ} 0 1 = cc in absurd (omega arith)

    -- at most 366 days for each year, the date's own among them
    pub count_bound : n < 366 * suc d.year
    count_bound = omega (arith, within_year d date_count.0, year_bound (suc d.year), date_count.1)
