-- A reader whose states hold a cursor simulates the plain reader.
use Prim.Native.Nat.{ℕ}
use mathlib.Core.Path.{◌≡◌, ap, ◌∙◌}
use mathlib.Core.List.{List}
use native.Mathlib.Omega.{arith}
use Rattle.plain_reader.specs.Rules.{Rules}
use Rattle.plain_reader.specs.Calls.{Answer, Reader}
use Rattle.plain_reader.specs.Plain.{PlainState, turned_to, next_plain}
use Rattle.plain_reader.specs.Cursor.{Cursor, to_start, view, next_at}
use Rattle.plain_reader.specs.Refinement.{FitsPrefixFact, Implements}
use Rattle.plain_reader.proofs.Trace.{Simulation}
use Rattle.plain_reader.proofs.Position.{At, next_view}
use Rattle.plain_reader.proofs.Fits.{next_keeps}

module _ (L : Rules) (A : Reader L) (I : Implements L A) where
  -- in a text that the reader takes, a state whose cursor is where the plain reader's lines are left
  abbrev pub Stands : List ℕ → A.State → PlainState L.Prefix → Type 0
  Stands t s σ = I.Takes t × I.Rest s × FitsPrefixFact I.Fits (I.get s).remembered × At L t (I.get s) σ

  pub set_stands : (t : List ℕ) (s u : A.State) (c : Cursor L.Prefix) (σ : PlainState L.Prefix) → I.Takes t → I.Rest s → FitsPrefixFact I.Fits c.remembered → At L t c σ → u ≡ I.set s c → Stands t u σ
  set_stands t s u c σ f r g a e =
      let back : I.get (I.set s c) ≡ c = I.get_set t s c f r (a.0, g) in
      rw e (f, I.rest_set t s c f r (a.0, g), rw back g, rw back a)

  pub next_stands : (t : List ℕ) (s : A.State) (σ : PlainState L.Prefix) (k : L.Places) → Stands t s σ → Stands t (A.next t k s).1 (next_plain L k σ).1
  next_stands t s σ k h =
      let c = I.get s in
      set_stands t s (A.next t k s).1 (next_at L t k c).1 (next_plain L k σ).1 h.0 h.1
      (next_keeps L I.Fits I.lines_fit (view t c) k h.2) (next_view L t c σ k h.3)
      (ap (λ (z : Answer L.Element × A.State). z.1) (I.next_is t k s h.0 h.1 (h.3.0, h.2)))

  abbrev pub simulation : Simulation L A
  simulation = record {
    Takes = I.Takes;
    Stands = Stands;
    same_answer = λ t s σ k h.
        ap (λ (z : Answer L.Element × A.State). z.0) (I.next_is t k s h.0 h.1 (h.3.0, h.2)) ∙ ap (λ (τ : PlainState L.Prefix). (next_plain L k τ).0) h.3.1;
    next_stands = next_stands;
    turn_stands = λ t s σ p h f.
        set_stands p s (A.turn p s) (to_start (I.get s)) (turned_to p σ) f h.1 h.2 (omega arith, ap (λ (τ : PlainState L.Prefix). turned_to p τ) h.3.1)
        (I.turn_is t p s h.0 h.1 (h.3.0, h.2));
    same_remembered = λ t s σ h. I.remembered_is s ∙ ap (λ (τ : PlainState L.Prefix). τ.remembered) h.3.1;
  }
