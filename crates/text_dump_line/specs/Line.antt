-- What one body line says (01, Body lines).
use Rattle.std.specs.Prelude.{ℕ, ◌-◌, Bool, cond, List, [], ◌∷◌, length, take, drop, leb, Option, Some, None}
use Rattle.scan.specs.Ascii.{ascii}
use Rattle.scan.specs.Search.{starts_with}
use Rattle.utf8.specs.Utf8.{readable}
use Rattle.utf8.specs.Edge.{has_slice}
use Rattle.text.specs.White.{trim, trim_start, trim_end}
use Rattle.decimal.specs.Decimal.{read_u32}
use Rattle.network.specs.Address.{read_address}
use Rattle.network.specs.Prefix.{read_prefix}
use Rattle.network.specs.declared.IpAddr.{IpAddr}
use Rattle.network.specs.declared.NetworkPrefix.{NetworkPrefix}
use Rattle.columns.specs.Columns.{shift_left}
use Rattle.columns.specs.declared.Columns.{Columns}
use Rattle.path_text.specs.Path.{origin_of}
use Rattle.text_dump_line.specs.declared.PrefixText.{PrefixText}
use Rattle.text_dump_line.specs.declared.PrefixText.TheVariants.{Blank, Invalid, Valid}
use Rattle.text_dump_line.specs.declared.RouteEntry.{RouteEntry}
use Rattle.text_dump_line.specs.declared.Line.{Line}
use Rattle.text_dump_line.specs.declared.Line.TheVariants.{Unreadable, Passed, Wrapped, Route as RouteLine}

-- the bytes from a up to b; none where there is no such slice
unfoldable pub slice : ℕ → ℕ → List ℕ → List ℕ
slice a b t = cond (has_slice t a b) (take (b - a) (drop a t)) []

-- a column's text; no text reads as no address, no number and no prefix, as 01 says of a slice that
-- is missing
unfoldable pub column : ℕ → ℕ → List ℕ → List ℕ
column a b t = trim (slice a b t)

unfoldable pub displayed : List ℕ → Bool
displayed t = starts_with (trim_start t) (ascii "Displayed")

abbrev pub prefix_as : Option NetworkPrefix → PrefixText
prefix_as (Some p) = Valid p
prefix_as None = Invalid

unfoldable pub prefix_text : List ℕ → PrefixText
prefix_text [] = Blank
prefix_text (b ∷ s) = prefix_as (read_prefix (b ∷ s))

-- the slice from Path on gives the tokens; no slice, no tokens
unfoldable pub path_start : ℕ → List ℕ → ℕ
path_start path t = cond (has_slice t path (length t)) path (length t)

abbrev pub entry_of : Columns → IpAddr → List ℕ → RouteEntry
entry_of c hop t =
    record {
      next_hop = hop;
      metric = read_u32 (column c.metric c.local_pref t);
      local_pref = read_u32 (column c.local_pref c.weight t);
      path_start = path_start c.path t;
      path_end = length t;
      origin = origin_of (drop (path_start c.path t) t);
    }

-- the part of a line between the places that its route carries: of the line as it was read, before
-- its end was trimmed
abbrev pub path_of : RouteEntry → List ℕ → List ℕ
path_of e s = take (e.path_end - e.path_start) (drop e.path_start s)

abbrev pub route_to : Columns → List ℕ → Option IpAddr → Option (PrefixText × RouteEntry)
route_to c t (Some hop) = Some (prefix_text (column 3 c.next_hop t), entry_of c hop t)
route_to c t None = None

-- a route by these columns: the slice Next Hop..Metric must exist and trim to an address
unfoldable pub route_of : Columns → List ℕ → Option (PrefixText × RouteEntry)
route_of c t = cond (displayed t) None (route_to c t (read_address (column c.next_hop c.metric t)))

abbrev pub route_if : Option Columns → List ℕ → Option (PrefixText × RouteEntry)
route_if (Some c) t = route_of c t
route_if None t = None

abbrev pub or_else : Option (PrefixText × RouteEntry) → Option (PrefixText × RouteEntry) → Option (PrefixText × RouteEntry)
or_else (Some (p, e)) r = Some (p, e)
or_else None r = r

-- by the columns, then by all five minus 1
unfoldable pub any_route : Columns → List ℕ → Option (PrefixText × RouteEntry)
any_route c t = or_else (route_of c t) (route_if (shift_left c) t)

-- not longer than Next Hop, and the slice 3.. trims to a prefix (01's term: a wrapped prefix)
unfoldable pub wrapped_of : ℕ → List ℕ → Option NetworkPrefix
wrapped_of nextHop t = cond (leb (length t) nextHop) (read_prefix (column 3 (length t) t)) None

-- a route, else a wrapped prefix, else passed over
abbrev pub line_as : Option (PrefixText × RouteEntry) → Option NetworkPrefix → Line
line_as (Some (p, e)) w = RouteLine e p
line_as None (Some p) = Wrapped p
line_as None None = Passed

abbrev pub line_from : Columns → List ℕ → Line
line_from c t = line_as (any_route c t) (wrapped_of c.next_hop t)

-- the end is trimmed; an empty line has no slice that trims to an address or a prefix, and is
-- passed over
unfoldable pub line_of : Columns → List ℕ → Line
line_of c s = cond (readable s) (line_from c (trim_end s)) Unreadable
