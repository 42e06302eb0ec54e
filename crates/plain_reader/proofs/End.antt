-- Next says End only if no later line of the part yields, and only if all of them are readable.
use Prim.Native.Nat.{ℕ}
use mathlib.Core.Path.{◌≡◌, refl, ap}
use mathlib.Core.List.{List, [], map}
use native.Mathlib.Omega.{arith}
use lib.ListN.{drop}
use Rattle.plain_reader.specs.Lists.{Each}
use Rattle.plain_reader.specs.Rules.{Rules, Remembered}
use Rattle.plain_reader.specs.Calls.{Answer, end, Reader}
use Rattle.plain_reader.specs.Plain.{PlainState, Step, next_plain}
use Rattle.plain_reader.specs.Elements.{Readable, yielded, classified}
use Rattle.plain_reader.specs.Cursor.{view}
use Rattle.plain_reader.specs.Refinement.{Sound, Implements}
use Rattle.plain_reader.proofs.Scan.{scan}
use Rattle.plain_reader.proofs.Joined.{Met, met_element, met_end, met_refusal, meets}

module _ (L : Rules) where
  at_end_lem : {σ : PlainState L.Prefix} {l : List (List ℕ)} {es : List L.Element} {m : Remembered L.Prefix} {z : Step L}
      → Met L σ l es m z → z.0 ≡ end → (es ≡ []) × Each Readable (map L.classify l)
  at_end_lem (met_element e m b f) h = let z : ◌≡◌ {A = ℕ} 0 1 = cc in absurd (omega arith)
  at_end_lem (met_end m a) h = (refl, a)
  at_end_lem (met_refusal n) h = let z : ◌≡◌ {A = ℕ} 0 1 = cc in absurd (omega arith)

  pub plain_end : (σ : PlainState L.Prefix) (k : L.Places) → (next_plain L k σ).0 ≡ end
      → (yielded L σ.remembered (map L.classify σ.left) ≡ []) × Each Readable (map L.classify σ.left)
  plain_end σ k h = at_end_lem (meets L σ k (scan L σ k σ.remembered σ.left)) h

  pub end_last : (A : Reader L) (I : Implements L A) (t : List ℕ) (k : L.Places) (s : A.State) → I.Takes t → I.Rest s → Sound I.Fits t (I.get s) → (A.next t k s).0 ≡ end
      → let l = classified L (drop (I.get s).at t) in (yielded L (I.get s).remembered l ≡ []) × Each Readable l
  end_last A I t k s f r g h = plain_end (view t (I.get s)) k (cc (ap (λ (z : Answer L.Element × A.State). z.0) (I.next_is t k s f r g)))
