-- What a loop over the lines of a text needs: the reading by position, line by line. The loop's invariant is that next's answer is `come` of where it stands.
use Rattle.std.specs.Prelude.{Some, None}
use Prim.Native.Nat.{ℕ, ◌-◌, ◌≤◌, ◌<◌}
use mathlib.Core.Path.{◌≡◌, refl, ap, ◌∙◌}
use mathlib.Core.List.{List, flatten}
use native.Mathlib.Omega.{arith}
use lib.ListN.{length, take, drop, length-drop}
use Rattle.scan.specs.Lines.{lines, line_end, LineAt}
use Rattle.scan.proofs.LineLaws.{flatten_lines, line_at, line_end_inside, no_lines}
use Rattle.plain_reader.specs.Rules.{Rules, Remembered, nothing, invalid, valid, Line, unreadable, passed, wrapped, route, replace}
use Rattle.plain_reader.specs.Calls.{Answer, element, end, refused}
use Rattle.plain_reader.specs.Plain.{take_line, take_lines}
use Rattle.plain_reader.specs.Cursor.{Cursor, view, locate, located, next_at}

-- a position in the text is where the lines from it on are left
pub locate_at : {P : Type 0} (t : List ℕ) (i : ℕ) (m : Remembered P) → i ≤ length t → locate t (record { left = lines (drop i t); remembered = m }) ≡ record { at = i; remembered = m }
locate_at t i m h = ap (λ (n : ℕ). record { at = n; remembered = m }) (simp (flatten_lines, length-drop) (omega arith))

module _ (L : Rules) (t : List ℕ) (c : Cursor L.Prefix) (k : L.Places) where
  -- next, begun at the cursor c, once it has come to the position i with m remembered
  abbrev pub come : ℕ → Remembered L.Prefix → Answer L.Element × Cursor L.Prefix
  come i m = located L t (take_lines L (view t c) k m (lines (drop i t)))

  pub begins : next_at L t k c ≡ come c.at c.remembered
  begins = refl

  pub ends : (i : ℕ) (m : Remembered L.Prefix) → length t ≤ i → come i m ≡ (end, record { at = length t; remembered = m })
  unfolding take_lines flatten
  ends i m h = let z : length t - 0 ≡ length t = omega arith in rw (no_lines t i h) (ap (λ (n : ℕ). (end, record { at = n; remembered = m })) z)

  refuses : (n : ℕ) → c.at ≤ length t → located L t (refused n, view t c) ≡ (refused n, c)
  refuses n inside = ap (λ (q : Cursor L.Prefix). (refused n, q)) (locate_at t c.at c.remembered inside)

  -- the line from i to e
  module _ (i e : ℕ) (m : Remembered L.Prefix) (inside : i < length t) (here : e ≡ line_end t i) where
    meets : (y : Line L.Prefix L.Route) → L.classify (take (e - i) (drop i t)) ≡ y
        → come i m ≡ located L t (take_line L (view t c) k y m (lines (drop e t)) (λ m'. take_lines L (view t c) k m' (lines (drop e t))))
    unfolding take_lines
    meets y h = let line : LineAt t i e = rw here (line_at t i inside) in rw (line, h)

    pub six : L.classify (take (e - i) (drop i t)) ≡ unreadable → c.at ≤ length t → come i m ≡ (refused 6, c)
    six h b = meets unreadable h ∙ refuses 6 b

    pub passes : L.classify (take (e - i) (drop i t)) ≡ passed → come i m ≡ come e m
    passes h = meets passed h

    pub wraps : (p : L.Prefix) → L.classify (take (e - i) (drop i t)) ≡ wrapped p → come i m ≡ come e (valid p)
    wraps p h = meets (wrapped p) h

    module _ (x : Remembered L.Prefix) (r : L.Route) (h : L.classify (take (e - i) (drop i t)) ≡ route x r) where
      pub under_nothing : replace x m ≡ nothing → come i m ≡ come e nothing
      under_nothing g = meets (route x r) h ∙ rw g

      pub under_invalid : replace x m ≡ invalid → come i m ≡ come e invalid
      under_invalid g = meets (route x r) h ∙ rw g

      pub yields : (p : L.Prefix) → replace x m ≡ valid p → L.refusal k r ≡ None → come i m ≡ (element (L.yield p r), record { at = e; remembered = valid p })
      yields p g f =
          let b : e ≤ length t = omega (arith, line_end_inside t i (omega arith)) in
          meets (route x r) h ∙ rw (g, f) (ap (λ (q : Cursor L.Prefix). (element (L.yield p r), q)) (locate_at t e (valid p) b))

      pub short : (p : L.Prefix) (n : ℕ) → replace x m ≡ valid p → L.refusal k r ≡ Some n → c.at ≤ length t → come i m ≡ (refused n, c)
      short p n g f b = meets (route x r) h ∙ rw (g, f) (refuses n b)
