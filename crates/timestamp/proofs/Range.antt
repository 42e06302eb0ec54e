-- The second that a path names lies in the years 0 to 9999, so what is inferred is a timestamp. Assumes nothing.
use mathlib.Core.Path.{◌≡◌, refl, sym, ap, ◌∙◌}
use mathlib.Core.Bool.{Bool, true, false, cond, not, ◌&&◌, ◌||◌, false≢true}
use mathlib.Core.List.{List, [], ◌∷◌}
use Rattle.std.specs.Prelude.{is_some, Option, Some, None, Ok, Err}
use Prim.Native.Nat.{ℕ, zero, suc, ◌+◌, ◌*◌, ◌≤◌, ◌<◌}
use native.Mathlib.Omega.{arith}
use lib.Dec.{leb, eqb}
use lib.Ieee.{Float}
use lib.ListN.{length, drop}
use borrow.Author.Tests.{leb-true, eqb-true}
use Rattle.decimal.specs.Decimal.{is_digit}
use Rattle.utf8.specs.Utf8.{readable}
use Rattle.calendar.specs.Calendar.{total, is_date, days_before}
use Rattle.calendar.specs.declared.Date.{Date}
use Rattle.calendar.proofs.Range.{within_years}
use Rattle.seconds.specs.Seconds.{is_timestamp, timestamp_of}
use Rattle.seconds.proofs.Inverse.{second_of_timestamp}
use Rattle.timestamp.specs.Dates.{fits, has_shape, dashed, two, date_of, digit_before, moment_of, moment_in, is_dashed, is_dotted, first_from, first_place, noon_at, noon_in, moment_at, second_in, as_inferred, infer_timestamp}
use Rattle.timestamp.specs.declared.InferError.TheVariants.{NotUtf8}

-- timestamps count from the start of 1970
pub epoch : moment_of record { year = 1970; month = 1; day = 1 } 0 0 ≡ Some 62167219200
unfolding moment_of total
epoch = refl

both : (a b : Bool) → a && b ≡ true → (a ≡ true) × (b ≡ true)
both true b e = (refl, e)
both false b e = absurd (false≢true e)

-- where the shape has '0' there is a digit
digit_most : (b : ℕ) → fits 48 b ≡ true → b ≤ 57
digit_most b e = go (eqb b 48) refl e
  where
    go : (t : Bool) → eqb b 48 ≡ t → t || is_digit b ≡ true → b ≤ 57
    go true f g = omega (arith, eqb-true b 48 f)
    go false f g = leb-true b 57 (both (leb 48 b) (leb b 57) g).1

-- a shape that begins with four digits
year_most : (shape s : List ℕ) → has_shape (48 ∷ 48 ∷ 48 ∷ 48 ∷ shape) s ≡ true → (date_of s).year ≤ 9999
unfolding has_shape date_of
year_most shape [] e = absurd (false≢true e)
year_most shape (a ∷ []) e = absurd (false≢true (both (fits 48 a) false e).1)
year_most shape (a ∷ b ∷ []) e = absurd (false≢true (both (fits 48 b) false (both (fits 48 a) _ e).1).1)
year_most shape (a ∷ b ∷ c ∷ []) e =
    absurd (false≢true (both (fits 48 c) false (both (fits 48 b) (fits 48 c && false) (both (fits 48 a) (fits 48 b && (fits 48 c && false)) e).1).1).1)
year_most shape (a ∷ b ∷ c ∷ d ∷ s) e =
    let r = has_shape shape s in
    let p = both (fits 48 a) (fits 48 b && (fits 48 c && (fits 48 d && r))) e in
    let q = both (fits 48 b) (fits 48 c && (fits 48 d && r)) p.1 in
    let t = both (fits 48 c) (fits 48 d && r) q.1 in
    let u = both (fits 48 d) r t.1 in
    omega (arith, digit_most a p.0, digit_most b q.0, digit_most c t.0, digit_most d u.0)

-- a moment of a date in these years
moment_range : (d : Date) (hour minute o : ℕ) → d.year ≤ 9999 → moment_of d hour minute ≡ Some o → o < 315569520000
unfolding moment_of
moment_range d hour minute o y e = go (is_date d) (leb hour 23) (leb minute 59) refl refl refl e
  where
    go : (a b c : Bool) → is_date d ≡ a → leb hour 23 ≡ b → leb minute 59 ≡ c
        → cond (a && b && c) (Some (days_before d * 86400 + (hour * 3600 + minute * 60))) None ≡ Some o → o < 315569520000
    go true true true p q r e =
        let z : days_before d * 86400 + (hour * 3600 + minute * 60) ≡ o = cc in
        omega (arith, within_years d p y, leb-true hour 23 q, leb-true minute 59 r)
    go true true false p q r e = let z : ◌≡◌ {A = ℕ} 0 1 = cc in absurd (omega arith)
    go true false c p q r e = let z : ◌≡◌ {A = ℕ} 0 1 = cc in absurd (omega arith)
    go false b c p q r e = let z : ◌≡◌ {A = ℕ} 0 1 = cc in absurd (omega arith)

-- the test holds at the first place
first_holds : (test : ℕ → Bool) (n i k : ℕ) → first_from test i n ≡ Some k → test k ≡ true
unfolding first_from
first_holds test zero i k e = let z : ◌≡◌ {A = ℕ} 0 1 = cc in absurd (omega arith)
first_holds test (suc n) i k e = go (test i) refl e (first_holds test n (suc i) k)
  where
    go : (b : Bool) → test i ≡ b → cond b (Some i) (first_from test (suc i) n) ≡ Some k
        → (first_from test (suc i) n ≡ Some k → test k ≡ true) → test k ≡ true
    go true f e ih = let z : i ≡ k = cc in ap test (sym z) ∙ f
    go false f e ih = ih e

module _ (path : List ℕ) (o : ℕ) where
  noon_range : (m : Option ℕ) → first_place (is_dotted path) path ≡ m → noon_at path m ≡ Some o → o < 315569520000
  unfolding is_dotted
  noon_range None f e = let z : ◌≡◌ {A = ℕ} 0 1 = cc in absurd (omega arith)
  noon_range (Some i) f e = moment_range (date_of (drop i path)) 12 0 o (year_most _ (drop i path) (first_holds (is_dotted path) (length path) 0 i f)) e

  dashed_range : (m : Option ℕ) → first_place (is_dashed path) path ≡ m → moment_at path m ≡ Some o → o < 315569520000
  unfolding is_dashed moment_in noon_in
  dashed_range None f e = noon_range (first_place (is_dotted path) path) refl e
  dashed_range (Some i) f e =
      let h = both (not (digit_before path i) && has_shape dashed (drop i path)) (is_some (moment_in (drop i path))) (first_holds (is_dashed path) (length path) 0 i f) in
      moment_range (date_of (drop i path)) (two (drop i path) 11) (two (drop i path) 13) o
      (year_most _ (drop i path) (both (not (digit_before path i)) (has_shape dashed (drop i path)) h.0).1) e

  -- the second that a path names is one of the years 0 to 9999
  pub second_range : second_in path ≡ Some o → o < 315569520000
  unfolding second_in
  second_range e = dashed_range (first_place (is_dashed path) path) refl e

-- what is inferred is a timestamp
pub inferred_is_timestamp : (path : List ℕ) (t : Float) → infer_timestamp path ≡ Ok (Some t) → is_timestamp t ≡ true
unfolding infer_timestamp
inferred_is_timestamp path t e = go (readable path) (second_in path) refl e
  where
    go : (b : Bool) (m : Option ℕ) → second_in path ≡ m → cond b (as_inferred m) (Err NotUtf8) ≡ Ok (Some t) → is_timestamp t ≡ true
    go true (Some o) f g =
        let z : timestamp_of o ≡ t = cc in
        ap is_timestamp (sym z) ∙ ap is_some (second_of_timestamp o (second_range path o f))
    go true None f g = let z : ◌≡◌ {A = ℕ} 0 1 = cc in absurd (omega arith)
    go false m f g = let z : ◌≡◌ {A = ℕ} 0 1 = cc in absurd (omega arith)
