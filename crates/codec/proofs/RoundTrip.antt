-- A state's words spell it, and words that spell a state are its words: a state has one spelling. An element's words hold it. Assumes nothing.
use Rattle.std.specs.Prelude.{ℕ, Option, Some, None, unwrap_or}
use mathlib.Core.Path.{◌≡◌, refl, ap, ◌∙◌}
use mathlib.Core.Bool.{Bool, true, false, cond}
use lib.Dec.{T, eqb}
use lib.Ieee.{binary64, fits}
use lib.Ieee.Bits.{is_true, of_bits-to_bits}
use borrow.Author.Tests.{le-leb}
use Rattle.seconds.specs.Seconds.{is_timestamp}
use Rattle.network.specs.declared.IpAddr.{IpAddr}
use Rattle.network.specs.declared.IpAddr.TheVariants.{V4, V6}
use Rattle.network.specs.declared.Asn.{Asn}
use Rattle.elem.specs.declared.Origin.{Origin}
use Rattle.elem.specs.declared.Origin.TheVariants.{IGP, EGP, INCOMPLETE}
use Rattle.elem.specs.declared.Element.{Element}
use Rattle.text_dump.specs.declared.Remembered.{Remembered}
use Rattle.text_dump.specs.declared.Remembered.TheVariants.{Nothing, Invalid, Valid}
use Rattle.text_dump.specs.declared.State.{State}
use Rattle.codec.specs.Words.{address_words, remembered_words, known, asn_number, origin_number, state_words, element_words}
use Rattle.codec.specs.Spelling.{address_of, prefix_of, remembered_of, with_peer, with_remembered, state_but_time, state_of, FitsAddress, FitsRemembered, Fits}
use Rattle.codec.specs.Element.{address_in, asn_in, number_in, origin_in, element_in}

address_back : (a : IpAddr) → FitsAddress a → address_of (address_words a).kind (address_words a).upper (address_words a).lower ≡ Some a
unfolding address_of
address_back (V4 n) h = rw (le-leb n 4294967295 h)
address_back (V6 u l) h = refl

remembered_back : (m : Remembered) → FitsRemembered m
    → remembered_of (remembered_words m).kind (remembered_words m).addr.kind (remembered_words m).addr.upper (remembered_words m).addr.lower (remembered_words m).len ≡ Some m
unfolding remembered_of prefix_of
remembered_back Nothing h = refl
remembered_back Invalid h = refl
remembered_back (Valid p) h = rw (address_back p.addr h.0, le-leb p.len 255 h.1)

pub spells : (σ : State) → Fits σ → state_of (state_words σ) ≡ Some σ
unfolding state_of state_but_time state_words
spells σ h =
    rw (of_bits-to_bits binary64 σ.timestamp h.float, is_true (is_timestamp σ.timestamp) h.timestamp)
    (ap (with_peer (state_words σ)) (address_back σ.peer_ip h.peer)
    ∙ rw (le-leb σ.peer_asn.0 4294967295 h.asn, of_bits-to_bits binary64 σ.timestamp h.float)
    (ap (with_remembered (state_words σ) σ.peer_ip σ.timestamp) (remembered_back σ.remembered h.remembered)))

-- an element
address_held : (a : IpAddr) → address_in (address_words a).kind (address_words a).upper (address_words a).lower ≡ a
address_held (V4 n) = refl
address_held (V6 u l) = refl

asn_held : (a : Option Asn) → asn_in (known (asn_number a)) (unwrap_or (asn_number a) 0) ≡ a
asn_held (Some a) = refl
asn_held None = refl

number_held : (n : Option ℕ) → number_in (known n) (unwrap_or n 0) ≡ n
number_held (Some n) = refl
number_held None = refl

origin_held : (o : Option Origin) → origin_in (known (origin_number o)) (unwrap_or (origin_number o) 0) ≡ o
origin_held (Some IGP) = refl
origin_held (Some EGP) = refl
origin_held (Some INCOMPLETE) = refl
origin_held None = refl

announce_held : (b : Bool) → eqb (cond b 1 0) 1 ≡ b
announce_held true = refl
announce_held false = refl

pub element_held : (e : Element) → T (fits binary64 e.timestamp) → element_in (element_words e) ≡ e
unfolding element_in element_words
element_held e h =
    rw (announce_held e.announce, of_bits-to_bits binary64 e.timestamp h, address_held e.peer_ip, address_held e.prefix.addr, address_held e.next_hop, asn_held e.origin_asn, origin_held e.origin, number_held e.local_pref, number_held e.metric)
