-- Which bit patterns are a NaN's, and that a NaN is no timestamp. Assumes nothing.
use Rattle.std.specs.Prelude.{Option, Some, None, cond, false, nat_lt, unwrap_or}
use native.Mathlib.Omega.{arith}
use borrow.Author.Tests.{ltb-true}
use Rattle.std.proofs.Common.{◌≡◌, ℕ, ◌%◌, ◌<◌, ◌≤◌, Bool, true, not, T, sym, refl, ap, ◌∙◌, subst, le-ltb, lt-ltb}
use lib.Ieee.{Float, nan, inf, fin, binary64, is_nan, nan_bits, of_bits, lt, in_unsigned}
use lib.Ieee.Bits.{nan_bits_is, nan_bits_above}
use Rattle.seconds.specs.Seconds.{second_of, if_timestamp, float_of_bits, timestamp_of_bits}

only_nan : (x : Float) → is_nan x ≡ true → nan ≡ x
unfolding is_nan
only_nan nan e = refl
only_nan (inf s) e = absurd (subst T (sym e) tt)
only_nan (fin s m t) e = absurd (subst T (sym e) tt)

pub bits_nan : (n : ℕ) → 0x7ff0_0000_0000_0000 < n % 0x8000_0000_0000_0000 → nan ≡ of_bits binary64 n
bits_nan n h = only_nan (of_bits binary64 n) (sym (nan_bits_is binary64 n) ∙ nan_bits_above binary64 n ∙ lt-ltb _ _ h)

none : None ≡ if_timestamp nan
unfolding lt in_unsigned second_of
none = refl

pub of_number : (n : ℕ) → n % 0x8000_0000_0000_0000 ≤ 0x7ff0_0000_0000_0000 → T (not (nan_bits binary64 n))
of_number n h = subst (λ (b : Bool). T (not b)) (sym (nan_bits_above binary64 n ∙ le-ltb _ _ h)) tt

-- what the float of bits says of them
module _ (n : ℕ) (x : Option Float) (hx : x ≡ float_of_bits n) where
  nan_at : x ≡ None → nan ≡ of_bits binary64 n
  nan_at e = go (nat_lt 0x7ff0_0000_0000_0000 (n % 0x8000_0000_0000_0000)) refl (sym e ∙ hx)
    where
      go : (b : Bool) → nat_lt 0x7ff0_0000_0000_0000 (n % 0x8000_0000_0000_0000) ≡ b → None ≡ cond b None (Some (of_bits binary64 n)) → nan ≡ of_bits binary64 n
      go true f h = bits_nan n (ltb-true 0x7ff0_0000_0000_0000 (n % 0x8000_0000_0000_0000) f)
      go false f h = let z : ◌≡◌ {A = ℕ} 0 1 = cc in absurd (omega arith)

  float_at : (t : Float) → x ≡ Some t → t ≡ of_bits binary64 n
  float_at t e = go (nat_lt 0x7ff0_0000_0000_0000 (n % 0x8000_0000_0000_0000)) (sym e ∙ hx)
    where
      go : (b : Bool) → Some t ≡ cond b None (Some (of_bits binary64 n)) → t ≡ of_bits binary64 n
      go true h = let z : ◌≡◌ {A = ℕ} 0 1 = cc in absurd (omega arith)
      go false h = cc

  -- with a NaN where there is none
  pub float_or_nan : unwrap_or x nan ≡ of_bits binary64 n
  float_or_nan = go x nan_at float_at
    where
      go : (y : Option Float) → (y ≡ None → nan ≡ of_bits binary64 n) → ((t : Float) → y ≡ Some t → t ≡ of_bits binary64 n) → unwrap_or y nan ≡ of_bits binary64 n
      go (Some t) f g = g t refl
      go None f g = f refl

  pub of_nan : x ≡ None → None ≡ timestamp_of_bits n
  unfolding timestamp_of_bits
  of_nan e = none ∙ ap if_timestamp (nan_at e)

  module _ (t : Float) (some : x ≡ Some t) (r : Option ℕ) (e : r ≡ second_of t) where
    pub bits_one : (o : ℕ) → r ≡ Some o → Some t ≡ timestamp_of_bits n
    unfolding timestamp_of_bits
    bits_one o f = rw (← float_at t some, ← e, f)

    pub bits_none : r ≡ None → None ≡ timestamp_of_bits n
    unfolding timestamp_of_bits
    bits_none f = rw (← float_at t some, ← e, f)
