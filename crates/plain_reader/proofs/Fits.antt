-- Next remembers no prefix but those that lines bring: what fits keeps fitting.
use Prim.Native.Nat.{ℕ}
use mathlib.Core.List.{List}
use Rattle.plain_reader.specs.Rules.{Rules, Remembered, nothing, invalid, valid, Line, unreadable, passed, wrapped, route}
use Rattle.plain_reader.specs.Plain.{PlainState, Step, next_plain}
use Rattle.plain_reader.specs.Elements.{after_line}
use Rattle.plain_reader.specs.Refinement.{FitsPrefixFact, FitsLine}
use Rattle.plain_reader.proofs.Scan.{Scan, ends, six, passes, yields, refuses, scan}

-- where every prefix fits, so does every line
pub any_line : {P R : Type 0} (y : Line P R) → FitsLine (λ (p : P). Unit {0}) y
any_line unreadable = tt
any_line passed = tt
any_line (wrapped p) = tt
any_line (route nothing r) = tt
any_line (route invalid r) = tt
any_line (route (valid p) r) = tt

-- what a line leaves remembered fits
pub line_keeps : {P R : Type 0} (Fits : P → Type 0) (m : Remembered P) (y : Line P R) → FitsLine Fits y → FitsPrefixFact Fits m → FitsPrefixFact Fits (after_line m y)
line_keeps Fits m unreadable g h = h
line_keeps Fits m passed g h = h
line_keeps Fits m (wrapped p) g h = g
line_keeps Fits m (route nothing r) g h = h
line_keeps Fits m (route invalid r) g h = tt
line_keeps Fits m (route (valid p) r) g h = g

module _ (L : Rules) (Fits : L.Prefix → Type 0) (lines_fit : (x : List ℕ) → FitsLine Fits (L.classify x)) where
  scan_keeps : {σ : PlainState L.Prefix} {k : L.Places} {m : Remembered L.Prefix} {l : List (List ℕ)} {z : Step L}
      → Scan L σ k m l z → FitsPrefixFact Fits σ.remembered → FitsPrefixFact Fits m → FitsPrefixFact Fits z.1.remembered
  scan_keeps ends b h = h
  scan_keeps (six c) b h = b
  scan_keeps (passes {m = m} {x = x} y c d e s) b h = scan_keeps s b (line_keeps Fits m y (rw c at (lines_fit x)) h)
  scan_keeps (yields {m = m} {x = x} t r p c e f) b h = rw e at (line_keeps Fits m (route t r) (rw c at (lines_fit x)) h)
  scan_keeps (refuses t r p n c e f) b h = b

  pub next_keeps : (σ : PlainState L.Prefix) (k : L.Places) → FitsPrefixFact Fits σ.remembered → FitsPrefixFact Fits (next_plain L k σ).1.remembered
  next_keeps σ k h = scan_keeps (scan L σ k σ.remembered σ.left) h h
