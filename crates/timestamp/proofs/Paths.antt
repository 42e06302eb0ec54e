-- Each answer of the functions over a path, from the answers of their callees. Assumes nothing.
use mathlib.Core.Path.{◌≡◌, sym, ap, ◌∙◌}
use mathlib.Core.Bool.{Bool, true, false, not, cond}
use mathlib.Core.List.{List}
use Prim.Native.Nat.{ℕ, ◌-◌}
use lib.Ieee.{Float}
use Rattle.std.specs.Prelude.{is_some, Option, Some, None, Ok, Err}
use lib.ListN.{length, take, drop}
use borrow.Author.Tests.{not-true, not-false}
use Rattle.utf8.specs.Utf8.{readable}
use Rattle.calendar.specs.declared.Date.{Date}
use Rattle.seconds.specs.Seconds.{timestamp_of}
use Rattle.timestamp.specs.Dates.{dashed, dotted, has_shape, digit_before, date_of, moment_of, moment_in, is_dashed, is_dotted, first_place, noon_in, second_in, as_inferred, infer_timestamp, refusal}
use Rattle.timestamp.specs.declared.InferError.TheVariants.{NotUtf8}
use Rattle.timestamp.proofs.Shapes.{part_is}

-- the path from the place on, as the code has it
abbrev part : List ℕ → ℕ → List ℕ
part path i = take (length path - i) (drop i path)

-- a date with dashes at a place: b, f and r are what the code finds there
module _ (path : List ℕ) (i : ℕ) (b : Bool) (eb : b ≡ digit_before path i) where
  pub preceded : b ≡ true → false ≡ is_dashed path i
  unfolding is_dashed
  preceded h = rw (← eb, h)

  module _ (h : b ≡ false) (f : Bool) (ef : f ≡ has_shape dashed (part path i)) where
    shaped : f ≡ has_shape dashed (drop i path)
    shaped = ef ∙ ap (has_shape dashed) (part_is path i)

    pub unshaped : not f ≡ true → false ≡ is_dashed path i
    unfolding is_dashed
    unshaped g = rw (← eb, h, ← shaped, not-true f g)

    module _ (g : not f ≡ false) (r : Option ℕ) (er : r ≡ moment_in (part path i)) where
      read : r ≡ moment_in (drop i path)
      read = er ∙ ap (λ (s : List ℕ). (moment_in s)) (part_is path i)

      pub by_moment : (q : Bool) → q ≡ is_some r → q ≡ is_dashed path i
      unfolding is_dashed
      by_moment q e = rw (← eb, h, ← shaped, not-false f g, ← read, ← e)

-- a date with dots at a place
pub is_dotted_lem : (path : List ℕ) (i : ℕ) (f : Bool) → f ≡ has_shape dotted (part path i) → f ≡ is_dotted path i
unfolding is_dotted
is_dotted_lem path i f e = e ∙ ap (has_shape dotted) (part_is path i)

-- the noon of the first date with dots, which is at p
module _ (path : List ℕ) (p : Option ℕ) (e : p ≡ first_place (is_dotted path) path) where
  pub no_noon : p ≡ None → None ≡ noon_in path
  unfolding noon_in
  no_noon f = rw (← e, f)

  pub noon_at_lem : (i : ℕ) (d : Date) (r : Option ℕ) → p ≡ Some i → d ≡ date_of (part path i) → r ≡ moment_of d 12 0
      → r ≡ noon_in path
  unfolding noon_in
  noon_at_lem i d r f ed er = rw (← e, f) (er ∙ ap (λ (x : Date). (moment_of x 12 0)) (ed ∙ ap date_of (part_is path i)))

-- the second that the path names, the first date with dashes being at p
module _ (path : List ℕ) (p : Option ℕ) (r : Option ℕ) (e : p ≡ first_place (is_dashed path) path) where
  pub by_dots : p ≡ None → r ≡ noon_in path → r ≡ second_in path
  unfolding second_in
  by_dots f er = rw (← e, f) er

  pub by_dashes : (i : ℕ) → p ≡ Some i → r ≡ moment_in (part path i) → r ≡ second_in path
  unfolding second_in
  by_dashes i f er = rw (← e, f) (er ∙ ap (λ (s : List ℕ). (moment_in s)) (part_is path i))

-- the answer: u says whether the path is UTF-8, and r is its second
module _ (path : List ℕ) (u : Bool) (eu : u ≡ readable path) where
  answer : (b : Bool) → u ≡ b → infer_timestamp path ≡ cond b (as_inferred (second_in path)) (Err NotUtf8)
  unfolding infer_timestamp
  answer b h = ap (λ (x : Bool). cond x (as_inferred (second_in path)) (Err NotUtf8)) (sym eu ∙ h)

  pub unreadable : not u ≡ true → (Err NotUtf8) ≡ infer_timestamp path
  unreadable h = sym (answer false (not-true u h))

  pub refused : not u ≡ true → 3 ≡ refusal path
  refused h = ap (λ (x : Bool). cond x 0 3) (sym (not-true u h) ∙ eu)

  pub answered : not u ≡ false → 0 ≡ refusal path
  answered h = ap (λ (x : Bool). cond x 0 3) (sym (not-false u h) ∙ eu)

  module _ (h : not u ≡ false) (r : Option ℕ) (e : r ≡ second_in path) where
    pub none_named : r ≡ None → (Ok None) ≡ infer_timestamp path
    none_named f = sym (answer true (not-false u h) ∙ ap as_inferred (sym e ∙ f))

    pub one_named : (o : ℕ) (t : Float) → r ≡ Some o → t ≡ timestamp_of o → Ok (Some t) ≡ infer_timestamp path
    one_named o t f et = rw et (sym (answer true (not-false u h) ∙ ap as_inferred (sym e ∙ f)))
