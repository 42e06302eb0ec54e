-- The lines that print an element (models/bgp/elem.rs): texts with '|' between them; what is missing prints nothing.
use Rattle.std.specs.Prelude.{ℕ, ◌≡◌, Bool, true, cond, List, [], ◌∷◌, ◌++◌, length, leb, Float, Option, Some, None, Result, Ok, Err}
use Rattle.scan.specs.Ascii.{ascii}
use Rattle.decimal_display.specs.Printed.{decimal}
use Rattle.output.specs.Output.{front}
use Rattle.network.specs.declared.Asn.{Asn}
use Rattle.network.specs.declared.IpAddr.{IpAddr}
use Rattle.network.specs.declared.NetworkPrefix.{NetworkPrefix}
use Rattle.network_display.specs.Text.{address_text, prefix_text}
use Rattle.seconds.specs.Seconds.{second_of, timestamp_text}
use Rattle.aspath_display.specs.Display.{separated}
use Rattle.elem.specs.Element.{numbers}
use Rattle.elem.specs.declared.Element.{Element}
use Rattle.elem.specs.declared.Origin.TheVariants.{IGP, EGP, INCOMPLETE}
use Rattle.elem.specs.declared.Origin.{Origin}
use Rattle.psv.specs.declared.Attributes.{Attributes}
use Rattle.psv.specs.declared.ElementError.{ElementError}
use Rattle.psv.specs.declared.ElementError.TheVariants.{Spoilt, TooShort}

-- texts with '|' between them
abbrev pub joined : List (List ℕ) → List ℕ
joined = separated 124 (λ (t : List ℕ). t) true

-- get_psv_header
unfoldable pub header_text : List ℕ
header_text =
    joined
    (ascii "type" ∷ ascii "timestamp" ∷ ascii "peer_ip" ∷ ascii "peer_asn" ∷ ascii "prefix" ∷ ascii "as_path" ∷ ascii "origin_asns" ∷ ascii "origin" ∷ ascii "next_hop" ∷ ascii "local_pref" ∷ ascii "med" ∷ ascii "communities" ∷ ascii "atomic" ∷ ascii "aggr_asn" ∷ ascii "aggr_ip" ∷ ascii "only_to_customer" ∷ [])

abbrev pub type_text : Bool → List ℕ
type_text announce = cond announce (ascii "A") (ascii "W")

-- only a spoilt element has no second
unfoldable pub time_text : Option ℕ → List ℕ
time_text (Some second) = timestamp_text second
time_text None = []

-- the path is one sequence (Display of AsPath)
abbrev pub sequence_text : List ℕ → List ℕ
sequence_text ns = separated 32 decimal true ns

unfoldable pub asn_text : Option Asn → List ℕ
asn_text (Some a) = decimal a.0
asn_text None = []

-- Display of Origin (origin.rs)
unfoldable pub origin_text : Option Origin → List ℕ
origin_text (Some IGP) = ascii "IGP"
origin_text (Some EGP) = ascii "EGP"
origin_text (Some INCOMPLETE) = ascii "INCOMPLETE"
origin_text None = []

unfoldable pub number_text : Option ℕ → List ℕ
number_text (Some n) = decimal n
number_text None = []

-- to_psv, in the header's order; an element here has no communities, aggregator or only_to_customer, and is not atomic
unfoldable pub psv_text : Element → List ℕ → List ℕ
psv_text e asns =
    joined
    (type_text e.announce ∷ time_text (second_of e.timestamp) ∷ address_text e.peer_ip ∷ decimal e.peer_asn.0 ∷ prefix_text e.prefix ∷ sequence_text (numbers e asns) ∷ asn_text e.origin_asn ∷ origin_text e.origin ∷ address_text e.next_hop ∷ number_text e.local_pref ∷ number_text e.metric ∷ [] ∷ ascii "false" ∷ [] ∷ [] ∷ [] ∷ [])

-- Display of BgpElem: the same without origin_asns and only_to_customer
unfoldable pub display_text : Element → List ℕ → List ℕ
display_text e asns =
    joined
    (type_text e.announce ∷ time_text (second_of e.timestamp) ∷ address_text e.peer_ip ∷ decimal e.peer_asn.0 ∷ prefix_text e.prefix ∷ sequence_text (numbers e asns) ∷ origin_text e.origin ∷ address_text e.next_hop ∷ number_text e.local_pref ∷ number_text e.metric ∷ [] ∷ ascii "false" ∷ [] ∷ [] ∷ [])

-- the one or the other in the parts that are written one after another: the front, which is the same for all elements of a peer and a time, the prefix,
-- the path and what stands behind it
abbrev pub bar : List ℕ
bar = 124 ∷ []

unfoldable pub front_text : Bool → Float → IpAddr → Asn → List ℕ
front_text announce t ip number = type_text announce ++ bar ++ time_text (second_of t) ++ bar ++ address_text ip ++ bar ++ decimal number.0

-- the front of an element's line
abbrev pub peer_text : Element → List ℕ
peer_text e = front_text e.announce e.timestamp e.peer_ip e.peer_asn

-- the prefix's field, with the bars around it
unfoldable pub between_text : NetworkPrefix → List ℕ
between_text p = bar ++ prefix_text p ++ bar

-- what stands before the path
abbrev pub begin_text : Element → List ℕ
begin_text e = peer_text e ++ between_text e.prefix

-- what stands behind it, in Display's line
abbrev pub attributes_of : Element → Attributes
attributes_of e = record { origin = e.origin; next_hop = e.next_hop; local_pref = e.local_pref; metric = e.metric }

unfoldable pub attributes_text : Attributes → List ℕ
attributes_text a = bar ++ origin_text a.origin ++ bar ++ address_text a.next_hop ++ bar ++ number_text a.local_pref ++ bar ++ number_text a.metric ++ ascii "||false||"

-- and in to_psv's
unfoldable pub tail_text : Element → List ℕ
tail_text e = bar ++ asn_text e.origin_asn ++ attributes_text (attributes_of e) ++ bar

-- the line that ends so
abbrev pub line_text : List ℕ → Element → List ℕ → List ℕ
line_text tail e asns = begin_text e ++ sequence_text (numbers e asns) ++ tail

-- a line whose texts are at hand: all up to the path, the path, and the origin AS; and the attributes behind them
unfoldable pub texts_line : List ℕ → List ℕ → List ℕ → Attributes → List ℕ
texts_line begin path asn a = begin ++ path ++ bar ++ asn ++ attributes_text a ++ bar

-- what a call that prints a text of the element answers and leaves: 01's order, 8, then 9 with the output as it was
pub record Printed (spoilt : Bool) (text out : List ℕ) (r : Result ℕ ElementError) (new : List ℕ) : Type 0 where
  pub told : r ≡ cond spoilt (Err Spoilt) (cond (leb (length text) (length out)) (Ok (length text)) (Err TooShort))
  pub left : new ≡ cond spoilt out (front text out)

-- 01's numbers of the refusals; 0 is an answer
abbrev pub number : Result ℕ ElementError → ℕ
number (Ok n) = 0
number (Err Spoilt) = 8
number (Err TooShort) = 9
