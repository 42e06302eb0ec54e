-- The plain reader under the lent lists is the one that is told the number of AS places, and what its answers are like. Assumes nothing.
use Rattle.std.specs.Prelude.{Option, Some, None}
use Prim.Native.Nat.{ℕ, ◌≤◌}
use mathlib.Core.Path.{◌≡◌, refl, ap, ◌∙◌, subst}
use mathlib.Core.Bool.{Bool, true, false, cond}
use mathlib.Core.List.{List, [], ◌∷◌}
use native.Mathlib.Omega.{arith}
use lib.ListN.{length}
use lib.Dec.{eqb, leb}
use Rattle.network.specs.declared.NetworkPrefix.{NetworkPrefix}
use Rattle.plain_reader.specs.Rules.{Remembered, nothing, invalid, valid, Line, unreadable, passed, wrapped, route, replace}
use Rattle.plain_reader.specs.Calls.{Answer, element, end, refused}
use Rattle.plain_reader.specs.Plain.{PlainState, Step, answer, answer_under, take_line, take_lines, next_plain}
use Rattle.plain_reader.specs.Cursor.{Cursor, view, locate, located, next_at}
use Rattle.plain_reader.proofs.LineLoop.{locate_at}
use Rattle.plain_reader.proofs.Scan.{Scan, ends, six, passes, yields, refuses, scan}
use Rattle.text_dump.specs.Rules.{Route, WithAsns, rules}
use Rattle.text_dump.specs.declared.State.{State}
use Rattle.exported_reader.specs.Reader.{Lent, lent_rules}

module _ (σ : State) where
  module _ (before : PlainState NetworkPrefix) (k : Lent) where
    same_under : (m : Remembered NetworkPrefix) (r : Route) (l : List (List ℕ)) (x y : Step (rules σ)) → x ≡ y
        → answer_under (lent_rules σ) before k m r l x ≡ answer_under (rules σ) before (length k.asns) m r l y
    same_under nothing r l x y e = e
    same_under invalid r l x y e = e
    same_under (valid p) r l x y e = again ((rules σ).refusal (length k.asns) r)
      where
        again : (o : Option ℕ) → answer (lent_rules σ) before k p r l o ≡ answer (rules σ) before (length k.asns) p r l o
        again None = refl
        again (Some n) = refl

    same_line : (y : Line NetworkPrefix Route) (m : Remembered NetworkPrefix) (l : List (List ℕ)) (f g : Remembered NetworkPrefix → Step (rules σ)) → ((m' : Remembered NetworkPrefix) → f m' ≡ g m')
        → take_line (lent_rules σ) before k y m l f ≡ take_line (rules σ) before (length k.asns) y m l g
    same_line unreadable m l f g h = refl
    same_line passed m l f g h = h m
    same_line (wrapped p) m l f g h = h (valid p)
    same_line (route t r) m l f g h = same_under (replace t m) r l (f (replace t m)) (g (replace t m)) (h (replace t m))

    same_lines : (l : List (List ℕ)) (m : Remembered NetworkPrefix) → take_lines (lent_rules σ) before k m l ≡ take_lines (rules σ) before (length k.asns) m l
    unfolding take_lines
    same_lines [] m = refl
    same_lines (x ∷ l) m = same_line ((rules σ).classify x) m l (λ m'. take_lines (lent_rules σ) before k m' l) (λ m'. take_lines (rules σ) before (length k.asns) m' l) (λ m'. same_lines l m')

  pub same_next : (t : List ℕ) (k : Lent) (c : Cursor NetworkPrefix) → next_at (lent_rules σ) t k c ≡ next_at (rules σ) t (length k.asns) c
  same_next t k c = ap (located (rules σ) t) (same_lines (view t c) k (view t c).left c.remembered)

  -- an element has its AS numbers' count and the reading's timestamp; a refusal leaves what was there, and is neither 0 nor 255, which mean an element and End
  abbrev pub Regular : {S : Type 0} → S → Answer WithAsns → S → Type 0
  Regular before (element x) s = (x.0.count ≡ length x.1) × (x.0.timestamp ≡ σ.timestamp)
  Regular before end s = Unit {0}
  Regular before (refused n) s = (s ≡ before) × (eqb n 0 ≡ false) × (eqb n 255 ≡ false)

  seven : (before : PlainState NetworkPrefix) (b : Bool) (n : ℕ) → cond b None (Some 7) ≡ Some n → Regular before (refused n) before
  seven before true n h = let z : ◌≡◌ {A = ℕ} 0 1 = cc in absurd (omega arith)
  seven before false n h = let z : 7 ≡ n = cc in subst (λ (j : ℕ). Regular before (refused j) before) z (refl, refl, refl)

  module _ (before : PlainState NetworkPrefix) (k : ℕ) where
    regular : {m : Remembered NetworkPrefix} {l : List (List ℕ)} {z : Step (rules σ)} → Scan (rules σ) before k m l z → Regular before z.0 z.1
    regular ends = tt
    regular (six c) = (refl, refl, refl)
    regular (passes y c d e s) = regular s
    regular (yields t r p c e f) = (refl, refl)
    regular (refuses t r p n c e f) = seven before (leb (length r.1) k) n f

  pub regular_next : (t : List ℕ) (k : ℕ) (c : Cursor NetworkPrefix) → c.at ≤ length t → Regular c (next_at (rules σ) t k c).0 (next_at (rules σ) t k c).1
  regular_next t k c h = go (next_plain (rules σ) k (view t c)) (regular (view t c) k (scan (rules σ) (view t c) k c.remembered (view t c).left))
    where
      go : (z : Step (rules σ)) → Regular (view t c) z.0 z.1 → Regular c z.0 (locate t z.1)
      go (element x, τ) g = g
      go (end, τ) g = g
      go (refused n, τ) g = (ap (locate t) g.0 ∙ locate_at t c.at c.remembered h, g.1, g.2)
