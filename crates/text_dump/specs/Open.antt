-- Opening (01, Reader and Where a call says no).
use Rattle.std.specs.Prelude.{ℕ, cond, List, Float, Option, Some, None, Result, Ok, Err}
use Rattle.columns.specs.declared.Columns.{Columns}
use Rattle.network.specs.declared.Asn.{Asn}
use Rattle.network.specs.declared.IpAddr.{IpAddr}
use Rattle.network.specs.declared.IpAddr.TheVariants.{V4}
use Rattle.seconds.specs.Seconds.{is_timestamp}
use Rattle.text_dump_header.specs.Header.{header}
use Rattle.text_dump_header.specs.declared.TextDumpHeader.{TextDumpHeader}
use Rattle.text_dump_header.specs.declared.HeaderError.{HeaderError}
use Rattle.text_dump_header.specs.declared.HeaderError.TheVariants.{Unreadable as UnreadableLine}
use Rattle.text_dump.specs.declared.Remembered.TheVariants.{Nothing}
use Rattle.text_dump.specs.declared.State.{State}
use Rattle.text_dump.specs.declared.OpenError.{OpenError}
use Rattle.text_dump.specs.declared.OpenError.TheVariants.{NoColumns, NoTimestamp, Unreadable}

-- the state, or 01's number of the refusal with the line at fault, 0 where no line is
pub data Opening : Type 0 where
  opened : State → Opening
  refused : ℕ → ℕ → Opening

-- what is missing in the header is 0.0.0.0 and 0 (01, Records)
abbrev pub peer_ip : Option IpAddr → IpAddr
peer_ip (Some a) = a
peer_ip None = V4 0

abbrev pub peer_asn : Option ℕ → Asn
peer_asn (Some n) = record { 0 = n }
peer_asn None = record { 0 = 0 }

-- 2: no column header; else the position behind the header line, and nothing remembered
abbrev pub open_at : Float → TextDumpHeader → ℕ → Option Columns → Opening
open_at time h at (Some c) = opened (record { columns = c; peer_ip = peer_ip h.router_id; peer_asn = peer_asn h.local_as; timestamp = time; remembered = Nothing; position = at })
open_at time h at None = refused 2 0

-- 1: an unreadable line met by the scan
abbrev pub open_with : Float → Result (TextDumpHeader × ℕ) HeaderError → Opening
open_with time (Ok (h, at)) = open_at time h at h.columns
open_with time (Err (UnreadableLine n)) = refused 1 n

-- 4: no timestamp
unfoldable pub open_of : Float → List ℕ → Opening
open_of time s = cond (is_timestamp time) (open_with time (header s)) (refused 4 0)

-- 01's number of a refusal, and the line at fault, 0 where no line is
abbrev pub number : OpenError → ℕ
number NoTimestamp = 4
number (Unreadable n) = 1
number NoColumns = 2

abbrev pub line_at_fault : OpenError → ℕ
line_at_fault NoTimestamp = 0
line_at_fault (Unreadable n) = n
line_at_fault NoColumns = 0

-- the answers' numbers and values
abbrev pub told : Result State OpenError → Opening
told (Ok σ) = opened σ
told (Err e) = refused (number e) (line_at_fault e)

-- opening's refusal for the scan's
abbrev pub of_header : HeaderError → OpenError
of_header (UnreadableLine n) = Unreadable n

abbrev pub accepted : Opening → Option State
accepted (opened σ) = Some σ
accepted (refused n l) = None
