-- The element that twenty-two words hold, for those who read what the calls wrote (docs/LAYOUT.md).
use Rattle.std.specs.Prelude.{ℕ, cond, List, get_or, eqb, Option, Some, None}
use Rattle.std.specs.Float.{binary64}
use Rattle.std.specs.Float.Ieee.{of_bits}
use Rattle.network.specs.declared.IpAddr.{IpAddr}
use Rattle.network.specs.declared.IpAddr.TheVariants.{V4, V6}
use Rattle.network.specs.declared.Asn.{Asn}
use Rattle.elem.specs.declared.Origin.{Origin}
use Rattle.elem.specs.declared.Origin.TheVariants.{IGP, EGP, INCOMPLETE}
use Rattle.elem.specs.declared.Element.{Element}

abbrev pub address_in : ℕ → ℕ → ℕ → IpAddr
address_in kind upper lower = cond (eqb kind 0) (V4 lower) (V6 upper lower)

abbrev pub asn_in : ℕ → ℕ → Option Asn
asn_in known v = cond (eqb known 0) None (Some (record { 0 = v }))

abbrev pub number_in : ℕ → ℕ → Option ℕ
number_in known v = cond (eqb known 0) None (Some v)

abbrev pub origin_in : ℕ → ℕ → Option Origin
origin_in known v = cond (eqb known 0) None (Some (cond (eqb v 0) IGP (cond (eqb v 1) EGP INCOMPLETE)))

unfoldable pub element_in : List ℕ → Element
element_in w =
    record {
      announce = eqb (get_or w 0 0) 1;
      timestamp = of_bits binary64 (get_or w 1 0);
      peer_ip = address_in (get_or w 2 0) (get_or w 3 0) (get_or w 4 0);
      peer_asn = record { 0 = get_or w 5 0 };
      prefix = record { addr = address_in (get_or w 6 0) (get_or w 7 0) (get_or w 8 0); len = get_or w 9 0 };
      next_hop = address_in (get_or w 10 0) (get_or w 11 0) (get_or w 12 0);
      count = get_or w 13 0;
      origin_asn = asn_in (get_or w 14 0) (get_or w 15 0);
      origin = origin_in (get_or w 16 0) (get_or w 17 0);
      local_pref = number_in (get_or w 18 0) (get_or w 19 0);
      metric = number_in (get_or w 20 0) (get_or w 21 0);
    }
