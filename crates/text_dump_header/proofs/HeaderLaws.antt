-- Laws of the scan over the header's lines.
use Rattle.std.specs.Prelude.{Option, Some, None, is_some, Result, Ok, Err}
use Prim.Native.Nat.{ℕ, zero, suc, ◌+◌, ◌-◌, ◌≤◌}
use mathlib.Core.Path.{◌≡◌, refl, sym, ap, ◌∙◌}
use mathlib.Core.Bool.{Bool, true, false, cond, not}
use mathlib.Core.List.{List, [], ◌∷◌}
use native.Mathlib.Omega.{arith}
use lib.ListN.{length, take, drop, length-take, length-drop}
use borrow.Author.Tests.{not-true, not-false}
use Rattle.scan.specs.Lines.{lines, line_end}
use Rattle.scan.proofs.LineLaws.{line_at, line_end_inside, line_end_after, no_lines}
use Rattle.utf8.specs.Utf8.{readable}
use Rattle.text.specs.White.{trim_end}
use Rattle.columns.specs.Columns.{column_header}
use Rattle.columns.specs.declared.Columns.{Columns}
use Rattle.text_dump_header.specs.Preamble.{preamble_line}
use Rattle.text_dump_header.specs.Header.{columns_of, is_found, through, unreadable_line, preamble_of, last_columns, total, header_of, header_from, missing, header}
use Rattle.text_dump_header.specs.declared.Preamble.{Preamble}
use Rattle.text_dump_header.specs.declared.HeaderError.{HeaderError}
use Rattle.text_dump_header.specs.declared.TextDumpHeader.{TextDumpHeader}
use Rattle.text_dump_header.specs.declared.HeaderError.TheVariants.{Unreadable}

pub scan_starts : (s : List ℕ) → header s ≡ header_from 0 missing 0 (through (take 64 (lines (drop 0 s))))
unfolding header
scan_starts s = refl

pub last_passed : (l : List ℕ) (ls : List (List ℕ)) → columns_of l ≡ None → last_columns (l ∷ ls) ≡ last_columns ls
unfolding last_columns
last_passed l [] e = e
last_passed l (m ∷ ls) e = refl

-- a readable line, which is the last one met, or is no column header
module _ (n : ℕ) (p : Preamble) (at : ℕ) (l : List ℕ) where
  last_line : (c : Option Columns) → readable l ≡ true → columns_of l ≡ c → header_from n p at (l ∷ []) ≡ Ok (header_of (preamble_line (trim_end l) p) c, at + length l)
  unfolding header_from unreadable_line preamble_of last_columns total
  last_line c r e = let z : length l + 0 ≡ length l = omega arith in rw (r, e, z)

  next_line : (ls : List (List ℕ)) → readable l ≡ true → columns_of l ≡ None
      → header_from n p at (l ∷ ls) ≡ header_from (n + 1) (preamble_line (trim_end l) p) (at + length l) ls
  unfolding header_from unreadable_line preamble_of total
  next_line ls r e = let z : at + (length l + total ls) ≡ at + length l + total ls = omega arith in rw (r, last_passed l ls e, z)

-- n lines are met, which said p; the next begins at the place at
module _ (s : List ℕ) (n at : ℕ) (p : Preamble) (inv : header s ≡ header_from n p at (through (take (64 - n) (lines (drop at s))))) where
  none_left : take (64 - n) (lines (drop at s)) ≡ [] → Ok (header_of p None, at) ≡ header s
  unfolding header_from through unreadable_line preamble_of last_columns total
  none_left e = let z : at ≡ at + 0 = omega arith in sym (inv ∙ rw e (ap (λ (k : ℕ). let r : Result (TextDumpHeader × ℕ) HeaderError = Ok (header_of p None, k) in r) (sym z)))

  pub scanned : n ≡ 64 → Ok (header_of p None, at) ≡ header s
  scanned e = none_left (rw e)

  pub text_ends : at ≡ length s → Ok (header_of p None, at) ≡ header s
  text_ends e = none_left (rw (no_lines s at (omega arith)) (take_none (64 - n)))
    where
      take_none : (k : ℕ) → take {A = List ℕ} k [] ≡ []
      take_none zero = refl
      take_none (suc k) = refl

  module _ (h : n ≤ 64) (hn : n ≡ 64 → ⊥) (i : at ≤ length s) (hi : at ≡ length s → ⊥) (end : ℕ) (q : end ≡ line_end s at) where
    pub line_order : at ≤ end
    line_order = omega (arith, line_end_after s at (omega arith))

    pub line_inside : end ≤ length s
    line_inside = omega (arith, line_end_inside s at i)

    abbrev line : List ℕ
    line = take (end - at) (drop at s)

    size : length line ≡ end - at
    size = simp (length-take, length-drop) (omega (arith, line_inside))

    abbrev later : List (List ℕ)
    later = take (64 - (n + 1)) (lines (drop end s))

    split : take (64 - n) (lines (drop at s)) ≡ line ∷ later
    split =
        let k : 64 - n ≡ suc (64 - (n + 1)) = omega arith in
        let e : lines (drop at s) ≡ line ∷ lines (drop end s) = rw q (line_at s at (omega arith)) in
        rw (k, e)

    first : header s ≡ header_from n p at (cond (is_found (columns_of line)) (line ∷ []) (line ∷ through later))
    unfolding through
    first = inv ∙ rw split

    module _ (r : Bool) (qr : r ≡ readable line) where
      pub line_unreadable : not r ≡ true → Err (Unreadable (n + 1)) ≡ header s
      unfolding header_from unreadable_line
      line_unreadable f = sym (first ∙ go (is_found (columns_of line)))
        where
          go : (z : Bool) → header_from n p at (cond z (line ∷ []) (line ∷ through later)) ≡ Err (Unreadable (n + 1))
          go true = rw (← qr, not-true r f)
          go false = rw (← qr, not-true r f)

      module _ (y : not r ≡ false) (t : List ℕ) (qt : t ≡ trim_end line) (p' : Preamble) (qp : p' ≡ preamble_line t p) (c : Option Columns) (qc : c ≡ column_header t) where
        ok : readable line ≡ true
        ok = sym qr ∙ not-false r y

        said : preamble_line (trim_end line) p ≡ p'
        said = rw (← qt, qp)

        columns_are : columns_of line ≡ c
        unfolding columns_of
        columns_are = rw (← qt, qc)

        to_end : at + length line ≡ end
        to_end = omega (arith, size, line_order)

        module _ (b : Bool) (qb : b ≡ is_some c) where
          pub line_columns : b ≡ true → Ok (header_of p' c, end) ≡ header s
          line_columns f = go c columns_are (sym qb ∙ f)
            where
              go : (x : Option Columns) → columns_of line ≡ x → is_some x ≡ true → Ok (header_of p' x, end) ≡ header s
              go (Some x) e i = sym (first ∙ rw e (last_line n p at line (Some x) ok e ∙ rw (said, to_end)))
              go None e i = let z : ◌≡◌ {A = ℕ} 0 1 = cc in absurd (omega arith)

          pub line_passed : b ≡ false → header s ≡ header_from (n + 1) p' end (through later)
          line_passed f = go c columns_are (sym qb ∙ f)
            where
              go : (x : Option Columns) → columns_of line ≡ x → is_some x ≡ false → header s ≡ header_from (n + 1) p' end (through later)
              go None e i = first ∙ rw e (next_line n p at line (through later) ok e ∙ rw (said, to_end))
              go (Some x) e i = let z : ◌≡◌ {A = ℕ} 0 1 = cc in absurd (omega arith)

pub ruleset scan_laws = (scan_starts, scanned, text_ends, line_order, line_inside, line_unreadable, line_columns, line_passed)

-- the answer by what the ways out of the loop yield
pub joined : (s : List ℕ) (p q : Preamble) (c d : Option Columns) (a b : ℕ) → p ≡ q → c ≡ d → a ≡ b → Ok (header_of q d, b) ≡ header s
    → Ok (header_of p c, a) ≡ header s
joined s p q c d a b e f g h = rw (e, f, g) h
