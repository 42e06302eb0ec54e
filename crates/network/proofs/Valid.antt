-- A prefix that is read has a length that its address can have.
use Rattle.std.specs.Prelude.{Option, Some, None}
use Prim.Native.Nat.{ℕ, ◌+◌}
use mathlib.Core.Path.{◌≡◌, refl, sym, ap, ◌∙◌}
use mathlib.Core.Bool.{Bool, true, false, cond}
use mathlib.Core.List.{List}
use native.Mathlib.Omega.{arith}
use lib.ListN.{length, take, drop}
use lib.Dec.{ltb, leb}
use borrow.Author.Tests.{ltb-true, le-leb}
use Rattle.decimal.specs.Decimal.{digits, below}
use Rattle.network.specs.Address.{address}
use Rattle.network.specs.Prefix.{last_place, length_of, length_for, with_length, prefix_of, prefix, read_prefix, bits, valid_prefix}
use Rattle.network.specs.declared.IpAddr.{IpAddr}
use Rattle.network.specs.declared.IpAddr.TheVariants.{V4, V6}
use Rattle.network.specs.declared.NetworkPrefix.{NetworkPrefix}

-- a number, if there is one, is at most m; a prefix, if there is one, is valid
abbrev AtMost : ℕ → Option ℕ → Type 0
AtMost m (Some n) = leb n m ≡ true
AtMost m None = Unit {0}

abbrev Valid : Option NetworkPrefix → Type 0
Valid (Some p) = valid_prefix p ≡ true
Valid None = Unit {0}

at_most : (m : ℕ) (d : Option ℕ) → AtMost m (below (m + 1) d)
at_most m None = tt
at_most m (Some n) = go (ltb n (m + 1)) refl
  where
    go : (b : Bool) → ltb n (m + 1) ≡ b → AtMost m (cond b (Some n) None)
    go true e = le-leb n m (omega (arith, ltb-true n (m + 1) e))
    go false e = tt

length_fits : (w m : ℕ) (t : List ℕ) → AtMost m (length_of w m t)
unfolding length_of
length_fits w m t = go (leb (length t) w)
  where
    go : (b : Bool) → AtMost m (cond b (below (m + 1) (digits t)) None)
    go true = at_most m (digits t)
    go false = tt

length_for_lem : (a : IpAddr) (t : List ℕ) → AtMost (bits a) (length_for a t)
length_for_lem (V4 n) t = length_fits 2 32 t
length_for_lem (V6 u l) t = length_fits 3 128 t

with_length_lem : (a : IpAddr) (l : Option ℕ) → AtMost (bits a) l → Valid (with_length a l)
with_length_lem a (Some n) h = h
with_length_lem a None h = tt

prefix_valid : (s : List ℕ) → Valid (prefix s)
unfolding prefix
prefix_valid s = go (ltb (last_place 47 s) (length s)) (address (take (last_place 47 s) s))
  where
    go : (b : Bool) (a : Option IpAddr) → Valid (cond b (prefix_of a (drop (last_place 47 s + 1) s)) None)
    go true (Some a) = with_length_lem a (length_for a (drop (last_place 47 s + 1) s)) (length_for_lem a (drop (last_place 47 s + 1) s))
    go true None = tt
    go false a = tt

pub read_valid : (s : List ℕ) (p : NetworkPrefix) → read_prefix s ≡ Some p → valid_prefix p ≡ true
read_valid s p = go (prefix s) (prefix_valid s)
  where
    go : (q : Option NetworkPrefix) → Valid q → q ≡ Some p → valid_prefix p ≡ true
    go (Some q) h e = let z : q ≡ p = cc in ap valid_prefix (sym z) ∙ h
    go None h e = let z : ◌≡◌ {A = ℕ} 0 1 = cc in absurd (omega arith)
