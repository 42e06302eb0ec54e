-- The slots of a state and of an element, in the order of docs/LAYOUT.md.
use Rattle.std.specs.Prelude.{ℕ, cond, is_some, unwrap_or, List, [], ◌∷◌, Option, Some, None}
use Rattle.std.specs.Float.{binary64}
use Rattle.std.specs.Float.Ieee.{to_bits}
use Rattle.network.specs.declared.IpAddr.{IpAddr}
use Rattle.network.specs.declared.IpAddr.TheVariants.{V4, V6}
use Rattle.network.specs.declared.Asn.{Asn}
use Rattle.elem.specs.declared.Origin.{Origin}
use Rattle.elem.specs.declared.Origin.TheVariants.{IGP, EGP, INCOMPLETE}
use Rattle.elem.specs.declared.Element.{Element}
use Rattle.text_dump.specs.declared.Remembered.{Remembered}
use Rattle.text_dump.specs.declared.Remembered.TheVariants.{Nothing, Invalid, Valid}
use Rattle.text_dump.specs.declared.State.{State}
use Rattle.codec.specs.declared.AddressWords.{AddressWords}
use Rattle.codec.specs.declared.RememberedWords.{RememberedWords}

-- an address: 0 for IPv4 and 1 for IPv6, then its halves
abbrev pub address_words : IpAddr → AddressWords
address_words (V4 n) = record { kind = 0; upper = 0; lower = n }
address_words (V6 u l) = record { kind = 1; upper = u; lower = l }

-- the remembered prefix: 0 nothing, 1 invalid text, 2 a prefix; what is not used is 0
abbrev pub unused : AddressWords
unused = record { kind = 0; upper = 0; lower = 0 }

abbrev pub remembered_words : Remembered → RememberedWords
remembered_words Nothing = record { kind = 0; addr = unused; len = 0 }
remembered_words Invalid = record { kind = 1; addr = unused; len = 0 }
remembered_words (Valid p) = record { kind = 2; addr = address_words p.addr; len = p.len }

-- what may be missing: 1 and its number, or 0 and 0
abbrev pub known : Option ℕ → ℕ
known n = cond (is_some n) 1 0

abbrev pub asn_number : Option Asn → Option ℕ
asn_number (Some a) = Some a.0
asn_number None = None

-- RFC 4271, 4.3
abbrev pub number_of : Origin → ℕ
number_of IGP = 0
number_of EGP = 1
number_of INCOMPLETE = 2

abbrev pub origin_number : Option Origin → Option ℕ
origin_number (Some o) = Some (number_of o)
origin_number None = None

-- where a state stands: what it remembers, and its position
abbrev pub cursor_with : RememberedWords → ℕ → List ℕ
cursor_with m position = m.kind ∷ m.addr.kind ∷ m.addr.upper ∷ m.addr.lower ∷ m.len ∷ position ∷ []

unfoldable pub cursor_words : Remembered → ℕ → List ℕ
cursor_words m position = cursor_with (remembered_words m) position

-- a state, with the words of its peer's address, its timestamp and its remembered prefix
abbrev pub state_with : State → AddressWords → ℕ → RememberedWords → List ℕ
state_with σ peer time m =
    σ.columns.next_hop ∷ σ.columns.metric ∷ σ.columns.local_pref ∷ σ.columns.weight ∷ σ.columns.path
    ∷ peer.kind ∷ peer.upper ∷ peer.lower
    ∷ σ.peer_asn.0
    ∷ time
    ∷ cursor_with m σ.position

unfoldable pub state_words : State → List ℕ
state_words σ = state_with σ (address_words σ.peer_ip) (to_bits binary64 σ.timestamp) (remembered_words σ.remembered)

-- an element, with the words of whether it announces, its timestamp, its addresses and what may be missing
abbrev pub element_with : Element → ℕ → ℕ → AddressWords → AddressWords → AddressWords → Option ℕ → Option ℕ → Option ℕ → Option ℕ → List ℕ
element_with e announce time peer prefix hop asn origin pref med =
    announce
    ∷ time
    ∷ peer.kind ∷ peer.upper ∷ peer.lower
    ∷ e.peer_asn.0
    ∷ prefix.kind ∷ prefix.upper ∷ prefix.lower ∷ e.prefix.len
    ∷ hop.kind ∷ hop.upper ∷ hop.lower
    ∷ e.count
    ∷ known asn ∷ unwrap_or asn 0
    ∷ known origin ∷ unwrap_or origin 0
    ∷ known pref ∷ unwrap_or pref 0
    ∷ known med ∷ unwrap_or med 0 ∷ []

unfoldable pub element_words : Element → List ℕ
element_words e =
    element_with e (cond e.announce 1 0) (to_bits binary64 e.timestamp) (address_words e.peer_ip) (address_words e.prefix.addr) (address_words e.next_hop)
    (asn_number e.origin_asn) (origin_number e.origin) e.local_pref e.metric
