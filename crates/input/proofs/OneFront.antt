-- The bytes at hand have one answer to which line comes next: the contract of `line_at` leaves no
-- choice.
use Prim.Native.Nat.{ℕ, suc, ◌+◌, ◌-◌}
use mathlib.Core.Path.{◌≡◌, refl, sym, ap, ◌∙◌}
use mathlib.Core.Bool.{Bool, true, false, cond, false≢true, ◌||◌}
use mathlib.Core.List.{List, [], ◌∷◌, ◌++◌, head_d, append-nil}
use native.Mathlib.Omega.{arith}
use lib.ListN.{length, drop, length-take, length-drop}
use lib.Seq.{drop-append-le}
use Rattle.scan.specs.Lists.{any_of, onto}
use Rattle.scan.specs.Lines.{is_feed, lines, line_end}
use Rattle.scan.proofs.LineLaws.{line_end_inside}
use Rattle.input.specs.Input.{Fronts}
use Rattle.input.specs.declared.Front.{Front}
use Rattle.input.specs.declared.Front.TheVariants as front
use Rattle.input.proofs.Fronts.{first, first_cons}

-- a text with no line feed is all of a line, and one byte more makes it longer
longer : (a : List ℕ) → any_of is_feed a ≡ false → length (first (a ++ (0 ∷ []))) ≡ length a + 1
unfolding lines head_d onto any_of
longer [] h = refl
longer (x ∷ a) h = rw (first_cons x (a ++ (0 ∷ []))) (go (is_feed x) h (longer a))
  where
    go : (z : Bool) → (z || any_of is_feed a) ≡ false → (any_of is_feed a ≡ false → length (first (a ++ (0 ∷ []))) ≡ length a + 1)
        → length (cond z (x ∷ []) (x ∷ first (a ++ (0 ∷ [])))) ≡ suc (length a) + 1
    go true e ih = absurd (false≢true (sym e))
    go false e ih = omega (arith, ih e)

module _ (s : List ℕ) (at : ℕ) (ended : Bool) where
  -- where a line is told to end there it ends, as the bytes at hand have it
  line_ends : (e : ℕ) → Fronts s at ended (front.Line e) → e ≡ line_end s at
  unfolding line_end head_d
  line_ends e w =
      let l = ap (λ (ls : List (List ℕ)). length (head_d ls [])) (rw append-nil at (w.3 [] (λ t. refl))) in
      omega (arith, l, length-take (e - at) (drop at s), length-drop at s, w.0, w.1)

  line_not_starved : (e : ℕ) → Fronts s at ended (front.Line e) → Fronts s at ended front.Starved → ⊥
  unfolding head_d
  line_not_starved e w v =
      let l = ap (λ (ls : List (List ℕ)). length (head_d ls [])) (rw (drop-append-le at s (0 ∷ []) (omega (arith, w.0, w.1))) at (w.3 (0 ∷ []) (λ t. absurd (false≢true (sym v.0 ∙ t))))) in
      omega (arith, l, longer (drop at s) v.1, length-take (e - at) (drop at s), length-drop at s, w.0, w.1)

  line_not_long : (e : ℕ) → Fronts s at ended (front.Line e) → Fronts s at ended front.TooLong → ⊥
  line_not_long e w v = omega (arith, line_ends e w, w.2, rw append-nil at (v.1 []))

  long_not_starved : Fronts s at ended front.TooLong → Fronts s at ended front.Starved → ⊥
  long_not_starved w v = omega (arith, rw append-nil at (w.1 []), line_end_inside s at (omega (arith, w.0)), v.2 w.0)

  pub one_front : (f g : Front) → Fronts s at ended f → Fronts s at ended g → f ≡ g
  one_front (front.Line e) (front.Line d) w v = ap front.Line (line_ends e w ∙ sym (line_ends d v))
  one_front (front.Line e) front.TooLong w v = absurd (line_not_long e w v)
  one_front (front.Line e) front.Nothing w v = absurd (omega (arith, w.0, w.1, v.1))
  one_front (front.Line e) front.Starved w v = absurd (line_not_starved e w v)
  one_front front.TooLong (front.Line d) w v = absurd (line_not_long d v w)
  one_front front.TooLong front.TooLong w v = refl
  one_front front.TooLong front.Nothing w v = absurd (omega (arith, w.0, v.1))
  one_front front.TooLong front.Starved w v = absurd (long_not_starved w v)
  one_front front.Nothing (front.Line d) w v = absurd (omega (arith, v.0, v.1, w.1))
  one_front front.Nothing front.TooLong w v = absurd (omega (arith, v.0, w.1))
  one_front front.Nothing front.Nothing w v = refl
  one_front front.Nothing front.Starved w v = absurd (false≢true (sym v.0 ∙ w.0))
  one_front front.Starved (front.Line d) w v = absurd (line_not_starved d v w)
  one_front front.Starved front.TooLong w v = absurd (long_not_starved v w)
  one_front front.Starved front.Nothing w v = absurd (false≢true (sym w.0 ∙ v.0))
  one_front front.Starved front.Starved w v = refl
