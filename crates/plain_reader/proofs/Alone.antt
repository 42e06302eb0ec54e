-- A text read alone: calls that have said End in it find `alone`, and there are such calls wherever its lines are readable and the places suffice.
use Rattle.std.specs.Prelude.{None}
use Prim.Native.Nat.{ℕ, zero, suc, ◌<◌}
use mathlib.Core.Path.{◌≡◌}
use mathlib.Core.List.{List, [], ◌∷◌, map}
use native.Mathlib.Omega.{arith}
use lib.ListN.{length, replicate}
use Rattle.plain_reader.specs.Lists.{Each}
use Rattle.scan.specs.Lines.{lines}
use Rattle.plain_reader.specs.Rules.{Rules, Remembered, valid}
use Rattle.plain_reader.specs.Calls.{element, end, next, run}
use Rattle.plain_reader.specs.Plain.{PlainState, Step, opened, next_plain, plain}
use Rattle.plain_reader.specs.Elements.{classified, Suffices}
use Rattle.plain_reader.specs.Demand.{Ends, EndsEach, Finished}
use Rattle.plain_reader.proofs.Scan.{Scan, ends, six, passes, yields, refuses, scan}

module _ (L : Rules) (k : L.Places) where
  abbrev Enough : List (List ℕ) → Type 0
  Enough l = Each (Suffices L k) (map L.classify l)

  -- next, on fewer than n such lines: an element, with fewer left, or the end
  data Got (n : ℕ) : Step L → Type 0 where
    got_element : (e : L.Element) (m : Remembered L.Prefix) (l : List (List ℕ)) → suc (length l) < n → Enough l → Got n (element e, record { left = l; remembered = m })
    got_end : (m : Remembered L.Prefix) → Got n (end, record { left = []; remembered = m })

  gets : {σ : PlainState L.Prefix} (n : ℕ) {m : Remembered L.Prefix} {l : List (List ℕ)} {z : Step L} → Scan L σ k m l z → length l < n → Enough l → Got n z
  gets n (ends {m = m}) h f = got_end m
  gets n (six c) h f = absurd (rw c at f).0
  gets n (passes y c d e s) h f = gets n s (omega arith) f.1
  gets n (yields {l = l} t r p c e b) h f = got_element (L.yield p r) (valid p) l h f.1
  gets n (refuses t r p i c e b) h f = let w : L.refusal k r ≡ None = (rw c at f).0 in let z : ◌≡◌ {A = ℕ} 0 1 = cc in absurd (omega arith)

  -- so many calls of next say End
  say_end : (n : ℕ) (σ : PlainState L.Prefix) → length σ.left < n → Enough σ.left → Ends (run (plain L) (replicate n (next k)) σ [] []).here
  unfolding run Ends
  say_end zero σ h f = absurd (omega arith)
  say_end (suc n) σ h f = go (next_plain L k σ) (gets (suc n) (scan L σ k σ.remembered σ.left) h f) (λ τ. say_end n τ)
    where
      go : (z : Step L) → Got (suc n) z → ((τ : PlainState L.Prefix) → length τ.left < n → Enough τ.left → Ends (run (plain L) (replicate n (next k)) τ [] []).here)
          → Ends (z.0 ∷ (run (plain L) (replicate n (next k)) z.1 [] []).here)
      go z (got_element e m l c d) i = i (record { left = l; remembered = m }) (omega arith) d
      go z (got_end m) i = tt

  -- where its lines are readable and k places suffice for each, a text is read to its End by one next more than it has lines
  pub can_read_alone : (t : List ℕ) → Each (Suffices L k) (classified L t) → Finished L (t ∷ []) (replicate (suc (length (lines t))) (next k))
  unfolding EndsEach
  can_read_alone t f = (say_end (suc (length (lines t))) (opened t) (omega arith) f, tt)
