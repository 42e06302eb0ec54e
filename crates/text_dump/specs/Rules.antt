-- The rules of one reading, for the plain reader.
use Rattle.std.specs.Prelude.{ℕ, true, cond, List, [], ◌∷◌, length, leb, Option, Some, None}
use Rattle.network.specs.declared.NetworkPrefix.{NetworkPrefix}
use Rattle.elem.specs.declared.Element.{Element}
use Rattle.network.specs.declared.Asn.{Asn}
use Rattle.path_text.specs.Path.{asns_of}
use Rattle.text_dump_line.specs.Line.{line_of, path_of}
use Rattle.text_dump_line.specs.declared.RouteEntry.{RouteEntry}
use Rattle.text_dump_line.specs.declared.PrefixText.{PrefixText}
use Rattle.text_dump_line.specs.declared.PrefixText.TheVariants.{Blank, Invalid, Valid}
use Rattle.text_dump_line.specs.declared.Line.{Line}
use Rattle.text_dump_line.specs.declared.Line.TheVariants.{Unreadable, Passed, Wrapped, Route as RouteLine}
use Rattle.plain_reader.specs.Rules.{Rules, Remembered, nothing, invalid, valid, unreadable, passed, wrapped, route}
use Rattle.plain_reader.specs.Rules.{Line as Plain}
use Rattle.text_dump.specs.declared.State.{State}

-- what a route carries besides its prefix: the line's fields and its AS numbers
abbrev pub Route : Type 0
Route = RouteEntry × List ℕ

abbrev pub text_of : PrefixText → Remembered NetworkPrefix
text_of Blank = nothing
text_of Invalid = invalid
text_of (Valid p) = valid p

-- what a line's bytes s say
abbrev pub said : List ℕ → Line → Plain NetworkPrefix Route
said s Unreadable = unreadable
said s Passed = passed
said s (Wrapped p) = wrapped p
said s (RouteLine e x) = route (text_of x) (e, asns_of (path_of e s))

-- origin AS is the last AS number, or missing (01, Body lines)
unfoldable pub origin_asn : List ℕ → Option Asn
origin_asn [] = None
origin_asn (n ∷ []) = Some (record { 0 = n })
origin_asn (n ∷ m ∷ ns) = origin_asn (m ∷ ns)

-- the element that a route yields under a prefix (01, Records)
abbrev pub element_of : State → NetworkPrefix → RouteEntry → ℕ → Option Asn → Element
element_of σ p e count origin =
    record {
      announce = true;
      timestamp = σ.timestamp;
      peer_ip = σ.peer_ip;
      peer_asn = σ.peer_asn;
      prefix = p;
      next_hop = e.next_hop;
      count = count;
      origin_asn = origin;
      origin = e.origin;
      local_pref = e.local_pref;
      metric = e.metric;
    }

-- an element with its AS numbers: elements are the same only if these are too
abbrev pub WithAsns : Type 0
WithAsns = Element × List ℕ

-- the rules under the columns, the peer and the timestamp of a state; next is lent so many AS
-- places
abbrev pub rules : State → Rules
rules σ =
    record {
      Prefix = NetworkPrefix;
      Route = Route;
      Element = WithAsns;
      Places = ℕ;
      classify = λ s. said s (line_of σ.columns s);
      yield = λ p r. (element_of σ p r.0 (length r.1) (origin_asn r.1), r.1);
      refusal = λ k r. cond (leb (length r.1) k) None (Some 7);
    }
