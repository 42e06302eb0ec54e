-- Each answer of `moment_of`, from the tests that lead to it. Assumes nothing.
use Rattle.std.specs.Prelude.{Option, Some, None}
use mathlib.Core.Path.{◌≡◌, sym, ap, ◌∙◌}
use mathlib.Core.Bool.{Bool, true, false, cond, ◌&&◌}
use Prim.Native.Nat.{ℕ, ◌+◌, ◌*◌, ◌≤◌, ◌<◌}
use lib.Dec.{leb}
use borrow.Author.Tests.{le-leb, lt-leb}
use Rattle.calendar.specs.Calendar.{is_date, days_before, days_of}
use Rattle.calendar.specs.declared.Date.{Date}
use Rattle.calendar.proofs.Callers.{date_none, date_count}
use mathlib.Core.List.{List}
use Rattle.timestamp.specs.Dates.{two, date_of, moment_of, moment_in}

module _ (d : Date) (hour minute : ℕ) (r : Option ℕ) (e : r ≡ days_of d) where
  by_date : (b : Bool) → is_date d ≡ b
      → moment_of d hour minute ≡ cond (b && leb hour 23 && leb minute 59) (Some (days_before d * 86400 + (hour * 3600 + minute * 60))) None
  unfolding moment_of
  by_date b f = ap (λ (x : Bool). cond (x && leb hour 23 && leb minute 59) (Some (days_before d * 86400 + (hour * 3600 + minute * 60))) None) f

  pub no_date : r ≡ None → None ≡ moment_of d hour minute
  no_date f = sym ((by_date false (date_none d r e f)))

  module _ (n : ℕ) (f : r ≡ Some n) where
    found : moment_of d hour minute ≡ cond (leb hour 23 && leb minute 59) (Some (n * 86400 + (hour * 3600 + minute * 60))) None
    found = let k = date_count d r e n f in by_date true k.0 ∙ rw k.1

    pub no_hour : 23 < hour → None ≡ moment_of d hour minute
    no_hour h = sym (found ∙ simp (lt-leb hour 23 h))

    module _ (h : hour ≤ 23) where
      pub no_minute : 59 < minute → None ≡ moment_of d hour minute
      no_minute l = sym (found ∙ simp (le-leb hour 23 h, lt-leb minute 59 l))

      pub the_moment : minute ≤ 59 → Some (n * 86400 + (hour * 3600 + minute * 60)) ≡ moment_of d hour minute
      the_moment l = sym (found ∙ simp (le-leb hour 23 h, le-leb minute 59 l))

-- the moment whose parts have been read
pub moment_is : (s : List ℕ) (d : Date) (hour minute : ℕ) (r : Option ℕ) → d ≡ date_of s → hour ≡ two s 11 → minute ≡ two s 13
    → r ≡ moment_of d hour minute → r ≡ moment_in s
unfolding moment_in
moment_is s d hour minute r ed eh em e = rw (← ed, ← eh, ← em) e
