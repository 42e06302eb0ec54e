-- What the plain reader finds once next has said End in each part.
use Prim.Native.Nat.{ℕ}
use mathlib.Core.Path.{◌≡◌, refl, ap, ap₂, ◌∙◌}
use mathlib.Core.List.{List, [], ◌∷◌, map, tail}
use Rattle.plain_reader.specs.Lists.{Each}
use Rattle.scan.specs.Lines.{lines}
use Rattle.plain_reader.specs.Rules.{Rules, Remembered, nothing, valid, Line}
use Rattle.plain_reader.specs.Calls.{Answer, element, end, refused, Call, next, turn, Trace, first, answers, answered, run}
use Rattle.plain_reader.specs.Plain.{PlainState, Step, take_lines, plain, plain_trace}
use Rattle.plain_reader.specs.Elements.{Readable, after, yielded, by_part, classified}
use Rattle.plain_reader.specs.Demand.{found, Ends, EndsEach, Finished}
use Rattle.plain_reader.proofs.ElementLaws.{inherits}
use Rattle.plain_reader.proofs.Scan.{Scan, ends, six, passes, yields, refuses, scan}

module _ {E : Type 0} where
  -- the lines left will be read to their end: there are none, or End is said
  abbrev Reached : List (List ℕ) → List (Answer E) → Type 0
  Reached [] g = Unit {0}
  Reached (x ∷ l) g = Ends g

  reach : (l : List (List ℕ)) (g : List (Answer E)) → Ends g → Reached l g
  reach [] g h = tt
  reach (x ∷ l) g h = h

module _ (L : Rules) where
  -- what lines yield, and what they leave remembered
  abbrev Yields : Remembered L.Prefix → List (List ℕ) → List L.Element
  Yields m l = yielded L m (map L.classify l)

  abbrev Leaves : Remembered L.Prefix → List (List ℕ) → Remembered L.Prefix
  Leaves m l = after m (map L.classify l)

  abbrev AllReadable : List (List ℕ) → Type 0
  AllReadable l = Each Readable (map L.classify l)

  -- on the lines l, which yield es and leave m: next met an element, and the lines behind it yield the others; or the end; or it refused, and all is as before
  pub data Met (σ : PlainState L.Prefix) (l : List (List ℕ)) : List L.Element → Remembered L.Prefix → Step L → Type 0 where
    met_element : (e : L.Element) (m : Remembered L.Prefix) (b : List (List ℕ)) → (AllReadable b → AllReadable l) → Met σ l (e ∷ Yields m b) (Leaves m b) (element e, record { left = b; remembered = m })
    met_end : (m : Remembered L.Prefix) → AllReadable l → Met σ l [] m (end, record { left = []; remembered = m })
    met_refusal : {es : List L.Element} {m : Remembered L.Prefix} (n : ℕ) → Met σ l es m (refused n, σ)

  -- a readable line in front that yields nothing
  on : {σ : PlainState L.Prefix} {x : List ℕ} {l : List (List ℕ)} {es : List L.Element} {m : Remembered L.Prefix} {z : Step L} → Readable (L.classify x) → Met σ l es m z → Met σ (x ∷ l) es m z
  on c (met_element e m b f) = met_element e m b (λ a. (c, f a))
  on c (met_end m a) = met_end m (c, a)
  on c (met_refusal n) = met_refusal n

  pub meets : (σ : PlainState L.Prefix) (k : L.Places) {m : Remembered L.Prefix} {l : List (List ℕ)} {z : Step L} → Scan L σ k m l z → Met σ l (Yields m l) (Leaves m l) z
  unfolding yielded after
  meets σ k (ends {m = m}) = met_end m tt
  meets σ k (six c) = met_refusal 6
  meets σ k (passes y c d h s) = rw (c, h) (on (rw c d) (meets σ k s))
  meets σ k (yields {l = l} t r p c h f) = rw (c, h) (met_element (L.yield p r) (valid p) l (λ a. (rw c tt, a)))
  meets σ k (refuses t r p n c h f) = met_refusal n

  -- part by part, what lines yield when they are read on with what is remembered
  each : Remembered L.Prefix → List (List (Line L.Prefix L.Route)) → List (List L.Element)
  each m [] = []
  each m (l ∷ ls) = yielded L m l ∷ each (after m l) ls

  each_by_part : (m : Remembered L.Prefix) (ls : List (List (Line L.Prefix L.Route))) → each m ls ≡ by_part L m ls
  unfolding each by_part
  each_by_part m [] = refl
  each_by_part m (l ∷ ls) = ap₂ (λ (a : List L.Element) (b : List (List L.Element)). a ∷ b) (inherits L m l) (each_by_part (after m l) ls)

  -- the parts' lines are readable
  abbrev pub PartsReadable : List (List ℕ) → Type 0
  PartsReadable ps = Each (λ (p : List ℕ). Each Readable (classified L p)) ps

  -- a trace in which the lines l of the part at hand yield es and leave m: it finds es, in the parts to come what they yield with m, and all lines are readable
  record Finds (l : List (List ℕ)) (es : List L.Element) (m : Remembered L.Prefix) (ps : List (List ℕ)) (w : Trace L) : Type 0 where
    finds_here : found w.here ≡ es
    finds_later : map found w.later ≡ each m (map (classified L) ps)
    all_readable : AllReadable l
    parts_readable : PartsReadable ps

  abbrev plainly : List (Call L.Places) → Remembered L.Prefix → List (List ℕ) → List ℕ → List (List ℕ) → Trace L
  plainly cs m l t ps = run (plain L) cs (record { left = l; remembered = m }) t ps

  abbrev RunFinds : List (Call L.Places) → Remembered L.Prefix → List (List ℕ) → List ℕ → List (List ℕ) → Type 0
  RunFinds cs m l t ps = Reached l (plainly cs m l t ps).here → EndsEach ps (plainly cs m l t ps).later → Finds l (Yields m l) (Leaves m l) ps (plainly cs m l t ps)

  module _ (cs : List (Call L.Places)) (t : List ℕ) (ps : List (List ℕ)) (m : Remembered L.Prefix) (x : List ℕ) (l : List (List ℕ))
      (go : (m' : Remembered L.Prefix) (l' : List (List ℕ)) → RunFinds cs m' l' t ps) where
    goes_on : (es : List L.Element) (m∞ : Remembered L.Prefix) (z : Step L) → Met (record { left = x ∷ l; remembered = m }) (x ∷ l) es m∞ z
        → Yields m (x ∷ l) ≡ es → Leaves m (x ∷ l) ≡ m∞
        → let w = run (plain L) cs z.1 t ps in
        Ends (z.0 ∷ w.here) → EndsEach ps w.later → Finds (x ∷ l) es m∞ ps (answered z.0 w)
    unfolding found Ends yielded after
    goes_on es m∞ z (met_element e m' b f) u v h g =
        let i : Finds b (Yields m' b) (Leaves m' b) ps (plainly cs m' b t ps) = go m' b (reach b (plainly cs m' b t ps).here h) g in
        record { finds_here = ap (λ (r : List L.Element). e ∷ r) i.finds_here; finds_later = i.finds_later; all_readable = f i.all_readable; parts_readable = i.parts_readable }
    goes_on es m∞ z (met_end m' a) u v h g =
        let i : Finds [] [] m' ps (plainly cs m' [] t ps) = go m' [] tt g in
        record { finds_here = i.finds_here; finds_later = i.finds_later; all_readable = a; parts_readable = i.parts_readable }
    goes_on es m∞ z (met_refusal n) u v h g =
        let i : Finds (x ∷ l) (Yields m (x ∷ l)) (Leaves m (x ∷ l)) ps (plainly cs m (x ∷ l) t ps) = go m (x ∷ l) h g in
        record { finds_here = i.finds_here ∙ u; finds_later = i.finds_later ∙ ap (λ (n∞ : Remembered L.Prefix). each n∞ (map (classified L) ps)) v; all_readable = i.all_readable; parts_readable = i.parts_readable }

  finds : (cs : List (Call L.Places)) (m : Remembered L.Prefix) (l : List (List ℕ)) (t : List ℕ) (ps : List (List ℕ)) → RunFinds cs m l t ps
  unfolding run found Ends EndsEach each yielded after take_lines
  finds [] m [] t [] h g = record { finds_here = refl; finds_later = refl; all_readable = tt; parts_readable = tt }
  finds [] m [] t (p ∷ ps) h g = absurd g
  finds [] m (x ∷ l) t ps h g = absurd h
  finds (next k ∷ cs) m [] t ps h g =
      let i : Finds [] [] m ps (plainly cs m [] t ps) = finds cs m [] t ps h g in
      record { finds_here = i.finds_here; finds_later = i.finds_later; all_readable = tt; parts_readable = i.parts_readable }
  finds (next k ∷ cs) m (x ∷ l) t ps h g =
      let σ : PlainState L.Prefix = record { left = x ∷ l; remembered = m } in
      goes_on cs t ps m x l (λ m' l'. finds cs m' l' t ps) _ _ _ (meets σ k (scan L σ k m (x ∷ l))) refl refl h g
  finds (turn ∷ cs) m l t [] h g = finds cs m l t [] h g
  finds (turn ∷ cs) m [] t (p ∷ ps) h g =
      let i : Finds (lines p) (Yields m (lines p)) (Leaves m (lines p)) ps (plainly cs m (lines p) p ps) = finds cs m (lines p) p ps (reach (lines p) (plainly cs m (lines p) p ps).here g.0) g.1 in
      record {
        finds_here = refl;
        finds_later = ap₂ (λ (a : List L.Element) (b : List (List L.Element)). a ∷ b) i.finds_here i.finds_later;
        all_readable = tt;
        parts_readable = (i.all_readable, i.parts_readable);
      }
  finds (turn ∷ cs) m (x ∷ l) t (p ∷ ps) h g = absurd h

  module _ (ps : List (List ℕ)) (cs : List (Call L.Places)) (h : Finished L ps cs) where
    finds_plain : Finds (lines (first ps)) (Yields nothing (lines (first ps))) (Leaves nothing (lines (first ps))) (tail ps) (plain_trace L ps cs)
    unfolding EndsEach lines
    finds_plain = go ps h
      where
        go : (ps : List (List ℕ)) → Finished L ps cs → Finds (lines (first ps)) (Yields nothing (lines (first ps))) (Leaves nothing (lines (first ps))) (tail ps) (plain_trace L ps cs)
        go [] h = finds cs nothing [] [] [] tt tt
        go (p ∷ ps) h = finds cs nothing (lines p) [] ps (reach (lines p) (plainly cs nothing (lines p) [] ps).here h.0) h.1

    -- its elements, part by part
    pub plain_parted : map found (answers (plain_trace L ps cs)) ≡ by_part L nothing (map (classified L) (first ps ∷ tail ps))
    unfolding each
    plain_parted =
        ap₂ (λ (a : List L.Element) (b : List (List L.Element)). a ∷ b) finds_plain.finds_here finds_plain.finds_later
        ∙ each_by_part nothing (map (classified L) (first ps ∷ tail ps))

    pub plain_readable : PartsReadable ps
    plain_readable = go ps finds_plain.all_readable finds_plain.parts_readable
      where
        go : (ps : List (List ℕ)) → Each Readable (classified L (first ps)) → PartsReadable (tail ps) → PartsReadable ps
        go [] a b = tt
        go (p ∷ ps) a b = (a, b)
