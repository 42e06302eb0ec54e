-- How long a line can be: 90 bytes of front, 68 more before the path, 130 behind it, and 21 for each number with its separator.
-- What an element's numbers are below comes from owning the element, `Is` (logic's Denote/Laws.antt).
use Rattle.std.specs.Prelude.{Option, Some, None}
use mathlib.Core.Path.{◌≡◌, refl}
use mathlib.Core.List.{List, [], ◌∷◌}
use mathlib.Core.Bool.{Bool, true, false}
use Prim.Native.Nat.{ℕ, suc, ◌*◌, ◌≤◌, ◌<◌}
use native.Mathlib.Omega.{arith}
use lib.ListN.{length, get_or, length-append}
use lib.Dec.{T}
use lib.Ieee.{Float, binary64, fits}
use mir.Syntax.{w8, w32}
use mir.Val.{Val, Fits}
use denote.Laws.{Is}
use denote.Struct.Declared as struct
use borrow.Author.Rules.{rules}
use Rattle.std.specs.Borrow.{u32}
use Rattle.std.specs.contracts.option.Option as option
use Rattle.decimal_display.specs.Printed.{decimal}
use Rattle.decimal_display.proofs.Printed.{digits_most, difference_le}
use Rattle.network.specs.contracts.Asn as asn
use Rattle.network.specs.declared.Asn.{Asn}
use Rattle.network.specs.declared.IpAddr.{IpAddr}
use Rattle.network.specs.declared.NetworkPrefix.{NetworkPrefix}
use Rattle.network_display.specs.Text.{prefix_text}
use Rattle.network_display.proofs.Writing.{address_le}
use Rattle.seconds.specs.Seconds.{second_of}
use Rattle.seconds.proofs.Inverse.{timestamp_of_second}
use Rattle.aspath_display.specs.Display.{lead, separated}
use Rattle.elem.specs.declared.Element.{Element}
use Rattle.elem.specs.declared.Origin.TheVariants.{IGP, EGP, INCOMPLETE}
use Rattle.elem.specs.declared.Origin.{Origin}
use Rattle.elem.specs.contracts.Element as element
use Rattle.psv.specs.contracts.Attributes as attributes
use Rattle.psv.specs.declared.Attributes.{Attributes}
use Rattle.psv.specs.Line.{type_text, time_text, asn_text, origin_text, number_text, front_text, between_text, begin_text, attributes_of, attributes_text, tail_text}

-- the numbers
number_le : (n : ℕ) → Fits w32 n → length (decimal n) ≤ 20
number_le n f = digits_most 19 n (omega (arith, f.fits))

pub type_length : (b : Bool) → length (type_text b) ≡ 1
type_length true = refl
type_length false = refl

time_le : (t : Float) → T (fits binary64 t) → length (time_text (second_of t)) ≤ 21
unfolding time_text
time_le t f = go (second_of t) refl
  where
    go : (m : Option ℕ) → second_of t ≡ m → length (time_text m) ≤ 21
    go None e = omega arith
    go (Some s) e = difference_le s 62167219200 (let h : s < 315569520000 = (timestamp_of_second t s f e).0 in omega arith) (omega arith)

prefix_le : (p : NetworkPrefix) → Fits w8 p.len → length (prefix_text p) ≤ 66
unfolding prefix_text
prefix_le p f = simp length-append (omega (arith, address_le p.addr, digits_most 19 p.len (omega (arith, f.fits))))

origin_le : (x : Option Origin) → length (origin_text x) ≤ 10
unfolding origin_text
origin_le (Some IGP) = omega arith
origin_le (Some EGP) = omega arith
origin_le (Some INCOMPLETE) = omega arith
origin_le None = omega arith

asn_le : (x : Option Asn) (vs : List Val) → Is (option.the_row asn.the_row) x vs → length (asn_text x) ≤ 20
unfolding asn_text
asn_le (Some a) vs is = number_le a.0 (search rules)
asn_le None vs is = omega arith

u32_le : (x : Option ℕ) (vs : List Val) → Is (option.the_row u32) x vs → length (number_text x) ≤ 20
unfolding number_text
u32_le (Some n) vs is = number_le n (search rules)
u32_le None vs is = omega arith

pub sequence_le : (first : Bool) (ns : List ℕ) → ((i : ℕ) → Fits w32 (get_or ns i 0)) → length (separated 32 decimal first ns) ≤ 21 * length ns
unfolding separated
sequence_le first [] f = omega arith
sequence_le first (n ∷ ns) f =
    simp length-append (omega (arith, lead_le first, number_le n (f 0), sequence_le false ns (λ i. f (suc i))))
  where
    lead_le : (b : Bool) → length (lead b 32) ≤ 1
    lead_le true = omega arith
    lead_le false = omega arith

-- the parts of a line
pub front_le : (announce : Bool) (t : Float) (ip : IpAddr) (number : Asn) → T (fits binary64 t) → Fits w32 number.0
    → length (front_text announce t ip number) ≤ 90
unfolding front_text
front_le announce t ip number f g =
    simp length-append (omega (arith, type_length announce, time_le t f, address_le ip, number_le number.0 g))

pub between_le : (p : NetworkPrefix) → Fits w8 p.len → length (between_text p) ≤ 68
unfolding between_text
between_le p f = simp length-append (omega (arith, prefix_le p f))

attributes_bound : (a : Attributes) → length (number_text a.local_pref) ≤ 20 → length (number_text a.metric) ≤ 20 → length (attributes_text a) ≤ 108
unfolding attributes_text
attributes_bound a h i = simp length-append (omega (arith, origin_le a.origin, address_le a.next_hop, h, i))

module _ (a : Attributes) (vs : List Val) (is : Is (struct.row attributes.the_type) a vs) where
  preference_printed : length (number_text a.local_pref) ≤ 20
  preference_printed = search u32_le

  metric_printed : length (number_text a.metric) ≤ 20
  metric_printed = search u32_le

  pub attributes_le : length (attributes_text a) ≤ 108
  attributes_le = attributes_bound a preference_printed metric_printed

module _ (e : Element) (vs : List Val) (is : Is (struct.row element.the_type) e vs) where
  pub begin_le : length (begin_text e) ≤ 158
  begin_le =
      simp length-append (omega (arith, front_le e.announce e.timestamp e.peer_ip e.peer_asn (search rules) (search rules), between_le e.prefix (search rules)))

  asn_field : length (asn_text e.origin_asn) ≤ 20
  asn_field = search asn_le

  preference_field : length (number_text e.local_pref) ≤ 20
  preference_field = search u32_le

  metric_field : length (number_text e.metric) ≤ 20
  metric_field = search u32_le

  pub short_tail_le : length (attributes_text (attributes_of e)) ≤ 108
  short_tail_le = attributes_bound (attributes_of e) preference_field metric_field

  pub tail_le : length (tail_text e) ≤ 130
  unfolding tail_text
  tail_le = simp length-append (omega (arith, asn_field, short_tail_le))
