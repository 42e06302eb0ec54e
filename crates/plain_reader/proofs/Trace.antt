-- A reader that simulates the plain reader has its trace, whatever the calls.
use Prim.Native.Nat.{ℕ}
use mathlib.Core.Path.{◌≡◌, ap, ap₂}
use mathlib.Core.List.{List, [], ◌∷◌}
use Rattle.plain_reader.specs.Lists.{Each}
use Rattle.plain_reader.specs.Rules.{Rules, Remembered}
use Rattle.plain_reader.specs.Calls.{Call, next, turn, Reader, answered, turned, run}
use Rattle.plain_reader.specs.Plain.{PlainState, turned_to, next_plain, plain}

module _ (L : Rules) where
  -- a simulation: states stand, in the text at hand, for those of the plain reader, and keep doing so through next and turn
  pub record Simulation (A : Reader L) : Type 1 where
    -- the texts that the reader takes
    pub Takes : List ℕ → Type 0
    pub Stands : List ℕ → A.State → PlainState L.Prefix → Type 0
    pub same_answer : (t : List ℕ) (s : A.State) (σ : PlainState L.Prefix) (k : L.Places) → Stands t s σ → (A.next t k s).0 ≡ (next_plain L k σ).0
    pub next_stands : (t : List ℕ) (s : A.State) (σ : PlainState L.Prefix) (k : L.Places) → Stands t s σ → Stands t (A.next t k s).1 (next_plain L k σ).1
    pub turn_stands : (t : List ℕ) (s : A.State) (σ : PlainState L.Prefix) (p : List ℕ) → Stands t s σ → Takes p → Stands p (A.turn p s) (turned_to p σ)
    pub same_remembered : (t : List ℕ) (s : A.State) (σ : PlainState L.Prefix) → Stands t s σ → A.remembered s ≡ σ.remembered

module _ (L : Rules) (A : Reader L) (S : Simulation L A) where
  pub same_trace : (cs : List (Call L.Places)) (s : A.State) (σ : PlainState L.Prefix) (t u : List ℕ) (ps : List (List ℕ)) → S.Stands t s σ → Each S.Takes ps
      → run A cs s t ps ≡ run (plain L) cs σ u ps
  unfolding run
  same_trace [] s σ t u ps h y = ap (λ (m : Remembered L.Prefix). record { here = []; later = []; remembered = m }) (S.same_remembered t s σ h)
  same_trace (next k ∷ cs) s σ t u ps h y =
      ap₂ answered (S.same_answer t s σ k h) (same_trace cs (A.next t k s).1 (next_plain L k σ).1 t u ps (S.next_stands t s σ k h) y)
  same_trace (turn ∷ cs) s σ t u [] h y = same_trace cs s σ t u [] h y
  same_trace (turn ∷ cs) s σ t u (p ∷ ps) h y = ap turned (same_trace cs (A.turn p s) (turned_to p σ) p p ps (S.turn_stands t s σ p h y.0) y.1)
