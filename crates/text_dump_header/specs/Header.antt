-- The header of a table (01, Header).
use Rattle.std.specs.Prelude.{ℕ, ◌+◌, Bool, true, false, cond, List, [], ◌∷◌, length, take, Option, Some, None, Result, Ok, Err}
use Rattle.scan.specs.Lines.{lines}
use Rattle.utf8.specs.Utf8.{readable}
use Rattle.text.specs.White.{trim_end}
use Rattle.columns.specs.Columns.{column_header}
use Rattle.columns.specs.declared.Columns.{Columns}
use Rattle.text_dump_header.specs.Preamble.{preamble_line}
use Rattle.text_dump_header.specs.declared.Preamble.{Preamble}
use Rattle.text_dump_header.specs.declared.TextDumpHeader.{TextDumpHeader}
use Rattle.text_dump_header.specs.declared.HeaderError.{HeaderError}
use Rattle.text_dump_header.specs.declared.HeaderError.TheVariants.{Unreadable}

-- a line is read trimmed at its end
unfoldable pub columns_of : List ℕ → Option Columns
columns_of l = column_header (trim_end l)

abbrev pub is_found : Option Columns → Bool
is_found (Some c) = true
is_found None = false

-- the lines up to and with the first column header
unfoldable pub through : List (List ℕ) → List (List ℕ)
through [] = []
through (l ∷ ls) = let r = through ls in cond (is_found (columns_of l)) (l ∷ []) (l ∷ r)

-- the number of the first unreadable line, where n stand in front
unfoldable pub unreadable_line : ℕ → List (List ℕ) → Option ℕ
unreadable_line n [] = None
unreadable_line n (l ∷ ls) = let r = unreadable_line (n + 1) ls in cond (readable l) r (Some (n + 1))

-- what the lines say, one after the other
unfoldable pub preamble_of : Preamble → List (List ℕ) → Preamble
preamble_of p [] = p
preamble_of p (l ∷ ls) = preamble_of (preamble_line (trim_end l) p) ls

-- the columns of the last line, if it is a column header
unfoldable pub last_columns : List (List ℕ) → Option Columns
last_columns [] = None
last_columns (l ∷ []) = columns_of l
last_columns (l ∷ m ∷ ls) = last_columns (m ∷ ls)

unfoldable pub total : List (List ℕ) → ℕ
total [] = 0
total (l ∷ ls) = length l + total ls

abbrev pub header_of : Preamble → Option Columns → TextDumpHeader
header_of p c = record { table_version = p.table_version; router_id = p.router_id; local_as = p.local_as; columns = c }

abbrev pub answer : Option ℕ → Preamble → Option Columns → ℕ → Result (TextDumpHeader × ℕ) HeaderError
answer (Some n) p c at = Err (Unreadable n)
answer None p c at = Ok (header_of p c, at)

-- the answer to the lines met, where n lines stand in front that said p and end at the place at
unfoldable pub header_from : ℕ → Preamble → ℕ → List (List ℕ) → Result (TextDumpHeader × ℕ) HeaderError
header_from n p at met = answer (unreadable_line n met) (preamble_of p met) (last_columns met) (at + total met)

abbrev pub missing : Preamble
missing = record { table_version = None; router_id = None; local_as = None }

-- the scan meets the lines up to and with the first column header, and no more than 64
unfoldable pub header : List ℕ → Result (TextDumpHeader × ℕ) HeaderError
header s = header_from 0 missing 0 (through (take 64 (lines s)))

-- 01's number of a refusal (01, Where a call says no), and the line at fault
abbrev pub refusal : Result (TextDumpHeader × ℕ) HeaderError → Option ℕ
refusal (Ok (h, at)) = None
refusal (Err (Unreadable n)) = Some 1
