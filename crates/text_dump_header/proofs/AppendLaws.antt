-- What follows a header that ends with its column line changes nothing: for whoever opens a table
-- in parts.
use Rattle.std.specs.Prelude.{Option, Some, None, Result, Ok, Err}
use Prim.Native.Nat.{ℕ, zero, suc, ◌+◌}
use mathlib.Core.Path.{◌≡◌, refl, sym, ap, ◌∙◌}
use mathlib.Core.Bool.{true, cond}
use mathlib.Core.List.{List, [], ◌∷◌, ◌++◌}
use native.Mathlib.Omega.{arith}
use lib.ListN.{take}
use Rattle.scan.specs.Lines.{lines, Cut}
use Rattle.scan.proofs.LineLaws.{lines_append}
use Rattle.text.specs.White.{trim_end}
use Rattle.columns.specs.Columns.{are_rising}
use Rattle.columns.proofs.Laws.{header_rises}
use Rattle.columns.specs.declared.Columns.{Columns}
use Rattle.columns.proofs.Laws.{none_found}
use Rattle.text_dump_header.specs.Header.{columns_of, is_found, through, unreadable_line, preamble_of, last_columns, total, answer, header_from, missing, header}
use Rattle.text_dump_header.specs.declared.Preamble.{Preamble}
use Rattle.text_dump_header.specs.declared.HeaderError.{HeaderError}
use Rattle.text_dump_header.specs.declared.TextDumpHeader.{TextDumpHeader}
use Rattle.text_dump_header.proofs.HeaderLaws.{last_passed}

-- the lines that the scan meets, where a column header is among the first n, with lines behind them
met_already : (n : ℕ) (ls ms : List (List ℕ)) (c : Columns) → last_columns (through (take n ls)) ≡ Some c → through (take n (ls ++ ms)) ≡ through (take n ls)
unfolding through last_columns
met_already zero ls ms c e = refl
met_already (suc n) [] ms c e = none_found (through (take (suc n) ms) ≡ []) c e
met_already (suc n) (l ∷ ls) ms c e = go (columns_of l) refl e (λ f. met_already n ls ms c f)
  where
    go : (k : Option Columns) → columns_of l ≡ k → last_columns (cond (is_found k) (l ∷ []) (l ∷ through (take n ls))) ≡ Some c
        → (last_columns (through (take n ls)) ≡ Some c → through (take n (ls ++ ms)) ≡ through (take n ls))
        → cond (is_found k) (l ∷ []) (l ∷ through (take n (ls ++ ms))) ≡ cond (is_found k) (l ∷ []) (l ∷ through (take n ls))
    go (Some x) f e ih = refl
    go None f e ih = ap (λ r. l ∷ r) (ih (sym (last_passed l (through (take n ls)) f) ∙ e))

-- columns that were found are those of the last line met
abbrev columns_in : Option Columns → Result (TextDumpHeader × ℕ) HeaderError → Option Columns
columns_in k (Ok (h, at)) = h.columns
columns_in k (Err e) = k

columns_of_lem : (u : Option ℕ) (p : Preamble) (k : Option Columns) (i : ℕ) (h : TextDumpHeader) (at : ℕ) → answer u p k i ≡ Ok (h, at) → h.columns ≡ k
columns_of_lem None p k i h at e = sym (ap (columns_in k) e)
columns_of_lem (Some n) p k i h at e = let z : ◌≡◌ {A = ℕ} 0 1 = cc in absurd (omega arith)

pub header_append : (s t : List ℕ) → Cut s → (h : TextDumpHeader) (at : ℕ) (c : Columns) → header s ≡ Ok (h, at) → h.columns ≡ Some c → header (s ++ t) ≡ header s
unfolding header header_from
header_append s t cut h at c e f =
    let met : List (List ℕ) = through (take 64 (lines s)) in
    let k : last_columns (through (take 64 (lines s))) ≡ Some c =
    sym (columns_of_lem (unreadable_line 0 met) (preamble_of missing met) (last_columns met) (0 + total met) h at e) ∙ f in
    ap (λ l. header_from 0 missing 0 l) (ap (λ l. through (take 64 l)) (lines_append s t cut) ∙ met_already 64 (lines s) (lines t) c k)

-- the columns of a header rise
last_rise : (ls : List (List ℕ)) (c : Columns) → last_columns ls ≡ Some c → are_rising c ≡ true
unfolding last_columns columns_of
last_rise [] c e = none_found (are_rising c ≡ true) c e
last_rise (l ∷ []) c e = header_rises (trim_end l) c e
last_rise (l ∷ m ∷ ls) c e = last_rise (m ∷ ls) c e

pub header_columns_rise : (s : List ℕ) (h : TextDumpHeader) (at : ℕ) (c : Columns) → header s ≡ Ok (h, at) → h.columns ≡ Some c → are_rising c ≡ true
unfolding header header_from
header_columns_rise s h at c e f =
    let met : List (List ℕ) = through (take 64 (lines s)) in
    last_rise met c (sym (columns_of_lem (unreadable_line 0 met) (preamble_of missing met) (last_columns met) (0 + total met) h at e) ∙ f)
