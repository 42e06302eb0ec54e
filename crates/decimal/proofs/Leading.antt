-- Laws of the digits at the front of a text, and from a place on.
use Rattle.std.specs.Prelude.{Option, Some, None, unwrap_or}
use Rattle.std.specs.Borrow.{Bor}
use Rattle.std.specs.Slice.{IsGetRangeResult}
use Prim.Native.Nat.{ℕ, zero, suc, ◌+◌, ◌-◌, ◌*◌, ◌^◌, ◌≤◌, ◌<◌}
use mathlib.Core.Path.{◌≡◌, refl, sym, ap, ◌∙◌}
use mathlib.Core.Bool.{Bool, true, false, cond}
use mathlib.Core.List.{List, [], ◌∷◌, ◌++◌, append-nil}
use native.Mathlib.Omega.{arith}
use native.Mathlib.Nat.{zero-add, pow-le-pow_right}
use mir.Syntax.{w32}
use mir.Val.{Fits}
use lib.ListN.{length, get_or, take, drop, length-append, length-drop, drop_of_length-le, take-append-drop}
use Rattle.std.proofs.lemmas.List.{take_all}
use Rattle.std.proofs.Math.Logic.{⊎_elim}
use lib.Seq.{drop-cons, take-suc, length-take-le}
use lib.Dec.{leb}
use borrow.Author.Tests.{le-leb, lt-leb, leb-true}
use Rattle.decimal.specs.Decimal.{is_digit, behind, leading, or_zero, digits_at}
use Rattle.decimal.proofs.Laws.{digit_high, behind_cons, behind_append, behind_bound}

-- e digits at the front, at most nine, make v
pub record Run (t : List ℕ) (e v : ℕ) : Type 0 where
  pub few : e ≤ 9
  pub inside : e ≤ length t
  pub value : behind 0 (take e t) ≡ Some v

-- the bytes of a number are digits
pub digit_in : (v n : ℕ) (d : List ℕ) (j : ℕ) → behind v d ≡ Some n → j < length d → is_digit (get_or d j 0) ≡ true
digit_in v n [] j e h = absurd (omega arith)
digit_in v n (b ∷ d) zero e h = (behind_cons v b n d e).0
digit_in v n (b ∷ d) (suc j) e h = digit_in (v * 10 + (b - 48)) n d j (behind_cons v b n d e).1 (omega arith)

-- the front of digits goes on behind digits
leading_behind : (v n : ℕ) (d t : List ℕ) → behind v d ≡ Some n → leading (d ++ t) ≡ d ++ leading t
unfolding leading
leading_behind v n [] t e = refl
leading_behind v n (b ∷ d) t e =
    let f : (is_digit b ≡ true) × (behind (v * 10 + (b - 48)) d ≡ Some n) = behind_cons v b n d e in
    rw (f.0, leading_behind (v * 10 + (b - 48)) n d t f.1)

-- the digits at the front are a front of the text
pub leading_front : (t : List ℕ) → take (length (leading t)) t ≡ leading t
unfolding leading
leading_front [] = refl
leading_front (b ∷ t) = go (is_digit b) (leading_front t)
  where
    go : (z : Bool) → take (length (leading t)) t ≡ leading t → take (length (cond z (b ∷ leading t) [])) (b ∷ t) ≡ cond z (b ∷ leading t) []
    go true i = ap (λ l. b ∷ l) i
    go false i = refl

pub leading_le : (t : List ℕ) → length (leading t) ≤ length t
unfolding leading
leading_le [] = omega arith
leading_le (b ∷ t) = go (is_digit b) (leading_le t)
  where
    go : (z : Bool) → length (leading t) ≤ length t → length (cond z (b ∷ leading t) []) ≤ suc (length t)
    go true i = omega arith
    go false i = omega arith

pub leading_value : (v : ℕ) (t : List ℕ) → behind v (leading t) ≡ Some (or_zero (behind v (leading t)))
unfolding leading behind
leading_value v [] = refl
leading_value v (b ∷ t) = go (is_digit b) refl (leading_value (v * 10 + (b - 48)) t)
  where
    go : (z : Bool) → is_digit b ≡ z → behind (v * 10 + (b - 48)) (leading t) ≡ Some (or_zero (behind (v * 10 + (b - 48)) (leading t)))
        → behind v (cond z (b ∷ leading t) []) ≡ Some (or_zero (behind v (cond z (b ∷ leading t) [])))
    go true f i = rw f i
    go false f i = refl

-- what digits_at tells of a text
module _ (s : List ℕ) (i : ℕ) (w : Option (ℕ × ℕ)) (q : w ≡ digits_at s i) (v e : ℕ) (f : w ≡ Some (v, e)) where
  pub digits_run : Run (drop i s) (e - i) v
  unfolding digits_at
  digits_run = go (leb (length d) 9) refl (sym q ∙ f)
    where
      d : List ℕ
      d = leading (drop i s)

      go : (z : Bool) → leb (length d) 9 ≡ z → cond {A = Option (ℕ × ℕ)} z (Some (or_zero (behind 0 d), i + length d)) None ≡ Some (v, e) → Run (drop i s) (e - i) v
      go true h g =
          let x : or_zero (behind 0 d) ≡ v = ap (λ (w : Option (ℕ × ℕ)). (unwrap_or w (0, 0)).0) g in
          let y : i + length d ≡ e = ap (λ (w : Option (ℕ × ℕ)). (unwrap_or w (0, 0)).1) g in
          let n : e - i ≡ length d = omega arith in
          record {
            few = omega (arith, leb-true (length d) 9 h);
            inside = omega (arith, leading_le (drop i s));
            value = ap (behind 0) (ap (λ k. take k (drop i s)) n ∙ leading_front (drop i s)) ∙ leading_value 0 (drop i s) ∙ ap Some x;
          }
      go false h g = let z : ◌≡◌ {A = ℕ} 0 1 = cc in absurd (omega arith)

  -- and they end no sooner than they begin
  pub digits_from : i ≤ e
  unfolding digits_at
  digits_from = go (leb (length d) 9) (sym q ∙ f)
    where
      d : List ℕ
      d = leading (drop i s)

      go : (z : Bool) → cond {A = Option (ℕ × ℕ)} z (Some (or_zero (behind 0 d), i + length d)) None ≡ Some (v, e) → i ≤ e
      go true g = let y : i + length d ≡ e = ap (λ (w : Option (ℕ × ℕ)). (unwrap_or w (0, 0)).1) g in omega arith
      go false g = let z : ◌≡◌ {A = ℕ} 0 1 = cc in absurd (omega arith)

-- a run that is met digit by digit
pub run_starts : (t : List ℕ) → Run t 0 0
unfolding behind
run_starts t = record { few = omega arith; inside = omega arith; value = refl }

module _ (t : List ℕ) (i v : ℕ) (r : Run t i v) where
  run_size : length (take i t) ≡ i
  run_size = length-take-le i t r.inside

  pub run_small : (k : ℕ) → i ≤ k → v < 10 ^ k
  run_small k l =
      let b : v < 10 ^ i = rw (zero-add, run_size) at (behind_bound 0 0 v (take i t) (omega arith) r.value) in
      let m : 10 ^ i ≤ 10 ^ k = pow-le-pow_right (omega arith) l in
      omega arith

  run_leading : leading t ≡ take i t ++ leading (drop i t)
  run_leading = ap leading (sym (take-append-drop i t)) ∙ leading_behind 0 v (take i t) (drop i t) r.value

  module _ (here : i < length t) where
    next : leading (drop i t) ≡ cond (is_digit (get_or t i 0)) (get_or t i 0 ∷ leading (drop (suc i) t)) []
    unfolding leading
    next = rw (drop-cons t i 0 here)

    module _ (digit : is_digit (get_or t i 0) ≡ true) (l : i < 9) where
      pub run_product : Fits w32 (v * 10)
      run_product = record { fits = omega (arith, run_small 8 (omega arith), digit_high (get_or t i 0) digit) }

      pub run_sum : Fits w32 (v * 10 + (get_or t i 0 - 48))
      run_sum = record { fits = omega (arith, run_small 8 (omega arith), digit_high (get_or t i 0) digit) }

      pub run_more : Run t (i + 1) (v * 10 + (get_or t i 0 - 48))
      unfolding behind
      run_more =
          let k : i + 1 ≡ suc i = omega arith in
          record {
            few = omega arith;
            inside = omega arith;
            value = ap (behind 0) (ap (λ n. take n t) k ∙ take-suc t i 0 here) ∙ behind_append 0 v (take i t) (get_or t i 0 ∷ []) r.value ∙ rw digit;
          }

  -- at the front of what stands from a place of a text on
  module _ (s : List ℕ) (at : ℕ) (q : t ≡ drop at s) where
    stops : leading (drop i t) ≡ [] → Some (v, at + i) ≡ digits_at s at
    unfolding digits_at
    stops e =
        let d : leading t ≡ take i t = run_leading ∙ rw (e, append-nil) in
        sym (rw (← q, d, run_size, le-leb i 9 r.few, r.value))

    pub run_end : length t ≤ i → Some (v, at + length t) ≡ digits_at s at
    unfolding leading
    run_end h = let n : length t ≡ i = omega (arith, r.inside) in rw n (stops (rw (drop_of_length-le t h)))

    module _ (here : i < length t) where
      pub run_stops : is_digit (get_or t i 0) ≡ false → Some (v, at + i) ≡ digits_at s at
      run_stops h = stops (next here ∙ simp h)

      pub run_many : is_digit (get_or t i 0) ≡ true → 9 ≤ i → None ≡ digits_at s at
      unfolding digits_at
      run_many digit h =
          let n : length (leading t) ≡ i + suc (length (leading (drop (suc i) t))) =
          ap length run_leading ∙ length-append (take i t) (leading (drop i t)) ∙ rw (run_size, next here, digit) in
          sym (rw (← q, lt-leb (length (leading t)) 9 (omega arith)))

-- what stands from a place of a text on: nothing where the place is past its end
pub rest_of : (s : List ℕ) (at : ℕ) (g : Option (Bor (List ℕ))) (d r : Bor (List ℕ)) → IsGetRangeResult s at (length s) g → d.now ≡ [] → r ≡ unwrap_or g d → r.now ≡ drop at s
rest_of s at (Some x) d r h e q = ap (λ y. y.now) q ∙ h.0.2 ∙ take_all (length s - at) (drop at s) (simp length-drop (omega arith))
rest_of s at None d r h e q = ap (λ y. y.now) q ∙ e ∙ sym (drop_of_length-le s past)
  where
    past : length s ≤ at
    past = ⊎_elim (λ (l : length s < at). omega arith) (λ (l : length s < length s). omega arith) h.0

-- what digits_at uses
pub ruleset run_laws = (run_end, run_stops, run_many, run_product, run_sum, run_more)
