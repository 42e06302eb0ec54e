-- The printed text is the one that RFC 5952, section 4, asks for.
use mathlib.Core.Path.{◌≡◌, refl}
use mathlib.Core.List.{List, [], ◌∷◌, ◌++◌, append-nil}
use mathlib.Core.Bool.{Bool, true, false, cond, ◌&&◌, ◌||◌}
use Prim.Native.Nat.{ℕ, zero, suc, ◌+◌, ◌/◌, ◌%◌, ◌≤◌, ◌<◌}
use native.Mathlib.Nat.{le_refl, add-zero}
use native.Mathlib.Omega.{arith}
use lib.ListN.{length, get_or, take, drop, replicate}
use lib.Dec.{leb, ltb}
use borrow.Author.Tests.{lt-leb, le-leb, leb-false, ltb-true, ltb-false}
use Rattle.ipv6.specs.Ipv6.{gap}
use Rattle.ipv6.proofs.Sides.{Below}
use Rattle.ip_display.specs.Groups.{zeros, longest, first_run}
use Rattle.ip_display.specs.Text.{hex_byte, hexes, hex, joined, shortened, plain}
use Rattle.ip_display.proofs.Writing.{hex_1, hex_2, hex_3, hex_4}
use Rattle.network_display.proofs.RoundTrip.{around_run, run_zeros_at, gap_joined}

-- 4.2.1: no run of zero groups is longer than the longest
pub none_longer : (gs : List ℕ) (i : ℕ) → zeros (drop i gs) ≤ longest gs
unfolding longest zeros
none_longer [] zero = omega arith
none_longer [] (suc i) = omega arith
none_longer (g ∷ gs) zero = omega arith
none_longer (g ∷ gs) (suc i) = omega (arith, none_longer gs i)

-- 4.2.3: every run that starts before the one that is left out is shorter
pub shorter_before : (n : ℕ) (gs : List ℕ) (i : ℕ) → i < first_run n gs → zeros (drop i gs) < n
unfolding first_run
shorter_before n [] i h = absurd (omega arith)
shorter_before n (g ∷ gs) i h = go (leb n (zeros (g ∷ gs))) refl i h (shorter_before n gs)
  where
    go : (t : Bool) → leb n (zeros (g ∷ gs)) ≡ t → (i : ℕ) → i < cond t 0 (suc (first_run n gs)) → ((i : ℕ) → i < first_run n gs → zeros (drop i gs) < n)
        → zeros (drop i (g ∷ gs)) < n
    go true e i l ih = absurd (omega arith)
    go false e zero l ih = leb-false n (zeros (g ∷ gs)) e
    go false e (suc i) l ih = ih i (omega arith)

-- 4.2: a run of two or more zero groups is left out: the first longest one, the groups around it stay; where there is none, every group stays
pub record Shortest (gs : List ℕ) : Type 0 where
  pub start : ℕ
  pub size : ℕ
  pub two : 2 ≤ size
  pub groups : gs ≡ take start gs ++ (replicate size 0 ++ drop (start + size) gs)
  pub text : plain gs ≡ joined (take start gs) ++ (58 ∷ 58 ∷ []) ++ joined (drop (start + size) gs)
  pub longest_run : (i : ℕ) → zeros (drop i gs) ≤ size
  pub first_run_lem : (i : ℕ) → i < start → zeros (drop i gs) < size

pub shortened_text : (gs : List ℕ) → 2 ≤ longest gs → Shortest gs
unfolding plain shortened
shortened_text gs h =
    record {
      start = first_run (longest gs) gs;
      size = longest gs;
      two = h;
      groups = around_run gs (first_run (longest gs) gs) (longest gs) (run_zeros_at (longest gs) gs (le_refl (longest gs)));
      text = simp (le-leb 2 (longest gs) h);
      longest_run = none_longer gs;
      first_run_lem = shorter_before (longest gs) gs;
    }

-- 4.2.2: one zero group alone is not shortened
pub whole_text : (gs : List ℕ) → longest gs < 2 → plain gs ≡ joined gs
unfolding plain
whole_text gs h = simp (lt-leb 2 (longest gs) h)

-- no "::" within the groups on either side of it
pub one_gap : (gs : List ℕ) → Below gs → gap (joined gs) ≡ length (joined gs)
unfolding gap
one_gap gs b = rw (append-nil, add-zero) at (gap_joined gs [] b)

-- 4.1: no leading zero
digit_above : (d : ℕ) → 1 ≤ d → hex_byte d ≡ 48 → ⊥
digit_above d h = go (ltb d 10)
  where
    go : (t : Bool) → cond t (48 + d) (87 + d) ≡ 48 → ⊥
    go true e = omega arith
    go false e = omega arith

pub no_leading_zero : (g : ℕ) → 1 ≤ g → g < 65536 → get_or (hex g) 0 0 ≡ 48 → ⊥
no_leading_zero g h l e = by_size (ltb g 16) refl (ltb g 256) refl (ltb g 4096) refl
  where
    by_size : (t : Bool) → ltb g 16 ≡ t → (u : Bool) → ltb g 256 ≡ u → (v : Bool) → ltb g 4096 ≡ v → ⊥
    by_size true a u b v c = digit_above g h (rw (hex_1 g (ltb-true g 16 a)) at e)
    by_size false a true b v c =
        let m : 16 ≤ g = ltb-false g 16 a in digit_above (g / 16) (omega arith) (rw (hex_2 g m (ltb-true g 256 b)) at e)
    by_size false a false b true c =
        let m : 256 ≤ g = ltb-false g 256 b in digit_above (g / 256) (omega arith) (rw (hex_3 g m (ltb-true g 4096 c)) at e)
    by_size false a false b false c =
        let m : 4096 ≤ g = ltb-false g 4096 c in digit_above (g / 4096) (omega arith) (rw (hex_4 g m l) at e)

-- 4.3: digits and 'a' to 'f' in lower case
abbrev pub is_lower : ℕ → Bool
is_lower b = leb 48 b && leb b 57 || leb 97 b && leb b 102

abbrev pub Lower : List ℕ → Type 0
Lower [] = Unit
Lower (b ∷ s) = (is_lower b ≡ true) × Lower s

lower_append : (s t : List ℕ) → Lower s → Lower t → Lower (s ++ t)
lower_append [] t p q = q
lower_append (b ∷ s) t p q = (p.0, lower_append s t p.1 q)

lower_digit : (d : ℕ) → d < 16 → is_lower (hex_byte d) ≡ true
lower_digit d h = go (ltb d 10) refl
  where
    go : (t : Bool) → ltb d 10 ≡ t → is_lower (cond t (48 + d) (87 + d)) ≡ true
    go true e = let l : d < 10 = ltb-true d 10 e in simp (le-leb 48 (48 + d) (omega arith), le-leb (48 + d) 57 (omega arith))
    go false e =
        let l : 10 ≤ d = ltb-false d 10 e in
        simp (le-leb 48 (87 + d) (omega arith), lt-leb (87 + d) 57 (omega arith), le-leb 97 (87 + d) (omega arith), le-leb (87 + d) 102 (omega arith))

hexes_lower : (k n : ℕ) → Lower (hexes k n)
unfolding hexes
hexes_lower zero n = tt
hexes_lower (suc k) n = go (ltb n 16) refl (hexes_lower k (n / 16))
  where
    go : (t : Bool) → ltb n 16 ≡ t → Lower (hexes k (n / 16)) → Lower (cond t (hex_byte n ∷ []) (hexes k (n / 16) ++ (hex_byte (n % 16) ∷ [])))
    go true e p = (lower_digit n (ltb-true n 16 e), tt)
    go false e p = lower_append (hexes k (n / 16)) (hex_byte (n % 16) ∷ []) p (lower_digit (n % 16) (omega arith), tt)

pub lower_case : (g : ℕ) → Lower (hex g)
unfolding hex
lower_case g = hexes_lower 4 g
