-- The state that sixteen words spell, field by field (docs/LAYOUT.md); none where a slot holds no value of its field.
use Rattle.std.specs.Prelude.{ℕ, ◌≤◌, cond, ◌&&◌, List, get_or, T, eqb, leb, Float, Option, Some, None}
use Rattle.std.specs.Float.{binary64}
use Rattle.std.specs.Float.Ieee.{fits, of_bits}
use Rattle.columns.specs.declared.Columns.{Columns}
use Rattle.network.specs.declared.IpAddr.{IpAddr}
use Rattle.network.specs.declared.IpAddr.TheVariants.{V4, V6}
use Rattle.network.specs.declared.NetworkPrefix.{NetworkPrefix}
use Rattle.seconds.specs.Seconds.{is_timestamp}
use Rattle.text_dump.specs.declared.Remembered.{Remembered}
use Rattle.text_dump.specs.declared.Remembered.TheVariants.{Nothing, Invalid, Valid}
use Rattle.text_dump.specs.declared.State.{State}

-- an IPv4 address is a u32
unfoldable pub address_of : ℕ → ℕ → ℕ → Option IpAddr
address_of kind upper lower =
    cond (eqb kind 1) (Some (V6 upper lower))
    (cond (eqb kind 0 && eqb upper 0 && leb lower 4294967295) (Some (V4 lower)) None)

-- a prefix length is a u8; one that the address cannot have spells a spoilt state
abbrev pub with_length : ℕ → Option IpAddr → Option NetworkPrefix
with_length n (Some a) = cond (leb n 255) (Some (record { addr = a; len = n })) None
with_length n None = None

unfoldable pub prefix_of : ℕ → ℕ → ℕ → ℕ → Option NetworkPrefix
prefix_of kind upper lower n = with_length n (address_of kind upper lower)

abbrev pub as_valid : Option NetworkPrefix → Option Remembered
as_valid (Some p) = Some (Valid p)
as_valid None = None

-- where no prefix is remembered, its slots are 0
unfoldable pub remembered_of : ℕ → ℕ → ℕ → ℕ → ℕ → Option Remembered
remembered_of m kind upper lower n =
    cond (eqb m 2) (as_valid (prefix_of kind upper lower n))
    (cond (eqb kind 0 && eqb upper 0 && eqb lower 0 && eqb n 0)
    (cond (eqb m 0) (Some Nothing) (cond (eqb m 1) (Some Invalid) None))
    None)

module _ (w : List ℕ) where
  abbrev pub columns_of : Columns
  columns_of = record { next_hop = get_or w 0 0; metric = get_or w 1 0; local_pref = get_or w 2 0; weight = get_or w 3 0; path = get_or w 4 0 }

  abbrev pub with_remembered : IpAddr → Float → Option Remembered → Option State
  with_remembered peer t (Some m) =
      Some
      (record {
        columns = columns_of;
        peer_ip = peer;
        peer_asn = record { 0 = get_or w 8 0 };
        timestamp = t;
        remembered = m;
        position = get_or w 15 0;
      })
  with_remembered peer t None = None

  -- an AS number is a u32
  abbrev pub with_peer : Option IpAddr → Option State
  with_peer (Some a) = cond (leb (get_or w 8 0) 4294967295) (with_remembered a (of_bits binary64 (get_or w 9 0)) (remembered_of (get_or w 10 0) (get_or w 11 0) (get_or w 12 0) (get_or w 13 0) (get_or w 14 0))) None
  with_peer None = None

  -- the state that the words spell, whatever bits stand for its timestamp
  unfoldable pub state_but_time : Option State
  state_but_time = with_peer (address_of (get_or w 5 0) (get_or w 6 0) (get_or w 7 0))

  -- the state that the words spell: the bits are those of a timestamp (01, Records)
  unfoldable pub state_of : Option State
  state_of = cond (is_timestamp (of_bits binary64 (get_or w 9 0))) state_but_time None

-- what the types of a state's fields say of their numbers, and that its timestamp is one: such a state is spelled by its words (proofs/RoundTrip)
abbrev pub FitsAddress : IpAddr → Type 0
FitsAddress (V4 n) = n ≤ 4294967295
FitsAddress (V6 u l) = Unit {0}

abbrev pub FitsPrefix : NetworkPrefix → Type 0
FitsPrefix p = FitsAddress p.addr × (p.len ≤ 255)

abbrev pub FitsRemembered : Remembered → Type 0
FitsRemembered Nothing = Unit {0}
FitsRemembered Invalid = Unit {0}
FitsRemembered (Valid p) = FitsPrefix p

pub record Fits (σ : State) : Type 0 where
  pub peer : FitsAddress σ.peer_ip
  pub asn : σ.peer_asn.0 ≤ 4294967295
  pub float : T (fits binary64 σ.timestamp)
  pub timestamp : T (is_timestamp σ.timestamp)
  pub remembered : FitsRemembered σ.remembered
