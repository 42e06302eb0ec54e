-- What lines and headers bring fits its slots: an IPv4 address and an AS number that are read are below 2 ^ 32. Assumes nothing.
use Rattle.std.specs.Prelude.{Option, Some, None, Result, Ok, Err}
use Prim.Native.Nat.{ℕ, ◌+◌, ◌≤◌, ◌<◌, ◌^◌}
use mathlib.Core.Path.{◌≡◌, refl, sym, subst}
use mathlib.Core.Bool.{Bool, true, false, cond}
use mathlib.Core.List.{List, [], ◌∷◌}
use native.Mathlib.Omega.{arith}
use lib.ListN.{length, take, drop}
use lib.Dec.{T, ltb}
use lib.Ieee.{Float, binary64, fits}
use borrow.Author.Tests.{ltb-true, leb-true}
use Rattle.scan.specs.Lines.{lines}
use Rattle.text.specs.White.{trim, trim_end}
use Rattle.decimal.specs.Decimal.{unsigned, below, read_u32}
use Rattle.ipv4.specs.Ipv4.{ipv4}
use Rattle.ipv4.proofs.Ipv4.{ipv4_small}
use Rattle.ipv6.specs.Ipv6.{ipv6}
use Rattle.network.specs.Address.{either, address, read_address}
use Rattle.network.specs.Prefix.{last_place, length_for, with_length, prefix_of, prefix, read_prefix, bits, valid_prefix}
use Rattle.network.specs.declared.IpAddr.{IpAddr}
use Rattle.network.specs.declared.IpAddr.TheVariants.{V4, V6}
use Rattle.network.specs.declared.NetworkPrefix.{NetworkPrefix}
use Rattle.network.proofs.Valid.{read_valid}
use Rattle.text_dump_header.specs.Preamble.{router_text, local_as_text, reads, preamble_line}
use Rattle.text_dump_header.specs.Header.{answer, through, unreadable_line, preamble_of, last_columns, total, header_from, missing, header}
use Rattle.text_dump_header.specs.declared.Preamble.{Preamble}
use Rattle.text_dump_header.specs.declared.HeaderError.{HeaderError}
use Rattle.text_dump_header.specs.declared.TextDumpHeader.{TextDumpHeader}
use Rattle.text_dump_header.specs.declared.HeaderError.TheVariants.{Unreadable}
use Rattle.plain_reader.specs.Rules.{Remembered, nothing, invalid, valid}
use Rattle.plain_reader.specs.Cursor.{Cursor}
use Rattle.plain_reader.specs.Refinement as Plain
use Rattle.text_dump.specs.State.{stored, moved}
use Rattle.text_dump.specs.Open.{opened, open_of, peer_ip, peer_asn}
use Rattle.text_dump.specs.declared.State.{State}
use Rattle.text_dump.proofs.OpenLaws.{found_header}
use Rattle.codec.specs.Spelling.{FitsAddress, FitsRemembered, Fits}

abbrev FitsSome : Option IpAddr → Type 0
FitsSome (Some a) = FitsAddress a
FitsSome None = Unit {0}

address_fits : (s : List ℕ) → FitsSome (address s)
unfolding address
address_fits s = go (ipv4 s) refl (ipv6 s)
  where
    go : (m : Option ℕ) → ipv4 s ≡ m → (g : Option (List ℕ)) → FitsSome (either m g)
    go (Some n) e g = let h : n < 2 ^ 32 = ipv4_small s n e in omega arith
    go None e (Some gs) = tt
    go None e None = tt

-- a prefix that is read fits, and is valid
abbrev FitsPrefixFact : Option NetworkPrefix → Type 0
FitsPrefixFact (Some p) = FitsAddress p.addr
FitsPrefixFact None = Unit {0}

prefix_fits : (s : List ℕ) → FitsPrefixFact (prefix s)
unfolding prefix
prefix_fits s = go (ltb (last_place 47 s) (length s)) (address (take (last_place 47 s) s)) (address_fits (take (last_place 47 s) s))
  where
    with : (a : IpAddr) → FitsAddress a → (l : Option ℕ) → FitsPrefixFact (with_length a l)
    with a h (Some n) = h
    with a h None = tt

    go : (b : Bool) (a : Option IpAddr) → FitsSome a → FitsPrefixFact (cond b (prefix_of a (drop (last_place 47 s + 1) s)) None)
    go true (Some a) h = with a h (length_for a (drop (last_place 47 s + 1) s))
    go true None h = tt
    go false a h = tt

abbrev pub Read : NetworkPrefix → Type 0
Read p = FitsAddress p.addr × (valid_prefix p ≡ true)

pub read_fits : (s : List ℕ) (p : NetworkPrefix) → read_prefix s ≡ Some p → Read p
read_fits s p e = (go (prefix s) (prefix_fits s) e, read_valid s p e)
  where
    go : (q : Option NetworkPrefix) → FitsPrefixFact q → q ≡ Some p → FitsAddress p.addr
    go (Some q) h e = let z : q ≡ p = cc in subst (λ (x : NetworkPrefix). FitsAddress x.addr) z h
    go None h e = let z : ◌≡◌ {A = ℕ} 0 1 = cc in absurd (omega arith)

-- a valid length is a u8
pub short : (p : NetworkPrefix) → valid_prefix p ≡ true → p.len ≤ 255
short p h = go p.addr (leb-true p.len (bits p.addr) h)
  where
    go : (a : IpAddr) → p.len ≤ bits a → p.len ≤ 255
    go (V4 n) h = omega arith
    go (V6 u l) h = omega arith

-- no line brings another (text_dump, RulesLaws.lines_fit): a state keeps fitting when its cursor is moved to where a line left it
remembered_fits : (m : Remembered NetworkPrefix) → Plain.FitsPrefixFact Read m → FitsRemembered (stored m)
remembered_fits nothing h = tt
remembered_fits invalid h = tt
remembered_fits (valid p) h = (h.0, short p h.1)

pub moved_fits : (σ : State) → Fits σ → (c : Cursor NetworkPrefix) → Plain.FitsPrefixFact Read c.remembered → Fits (moved σ c)
moved_fits σ f c h = record { peer = f.peer; asn = f.asn; float = f.float; timestamp = f.timestamp; remembered = remembered_fits c.remembered h }

-- the header
abbrev FitsAddressRead : Option IpAddr → Type 0
FitsAddressRead (Some a) = FitsAddress a
FitsAddressRead None = Unit {0}

abbrev FitsNumber : Option ℕ → Type 0
FitsNumber (Some n) = n ≤ 4294967295
FitsNumber None = Unit {0}

read_address_fits : (s : List ℕ) → FitsAddressRead (read_address s)
read_address_fits s = go (address s) (address_fits s)
  where
    go : (a : Option IpAddr) → FitsSome a → FitsAddressRead (a)
    go (Some a) h = h
    go None h = tt

read_u32_fits : (s : List ℕ) → FitsNumber (read_u32 s)
read_u32_fits s = go (unsigned s)
  where
    size : (n : ℕ) (b : Bool) → ltb n (2 ^ 32) ≡ b → FitsNumber (cond b (Some n) None)
    size n true e = let h : n < 2 ^ 32 = ltb-true n (2 ^ 32) e in omega arith
    size n false e = tt

    go : (m : Option ℕ) → FitsNumber (below (2 ^ 32) m)
    go (Some n) = size n (ltb n (2 ^ 32)) refl
    go None = tt

abbrev FitsPreamble : Preamble → Type 0
FitsPreamble p = FitsAddressRead p.router_id × FitsNumber p.local_as

line_fits : (t : List ℕ) (p : Preamble) → FitsPreamble p → FitsPreamble (preamble_line t p)
unfolding preamble_line reads
line_fits t p h = (router (router_text t), asn (local_as_text t))
  where
    router : (o : Option (List ℕ)) → FitsAddressRead (reads read_address o p.router_id)
    router (Some x) = read_address_fits (trim x)
    router None = h.0

    asn : (o : Option (List ℕ)) → FitsNumber (reads read_u32 o p.local_as)
    asn (Some x) = read_u32_fits (trim x)
    asn None = h.1

preamble_fits : (l : List (List ℕ)) (p : Preamble) → FitsPreamble p → FitsPreamble (preamble_of p l)
unfolding preamble_of
preamble_fits [] p h = h
preamble_fits (x ∷ l) p h = preamble_fits l (preamble_line (trim_end x) p) (line_fits (trim_end x) p h)

abbrev FitsHeader : Result (TextDumpHeader × ℕ) HeaderError → Type 0
FitsHeader (Ok (h, at)) = FitsAddressRead h.router_id × FitsNumber h.local_as
FitsHeader (Err (Unreadable n)) = Unit {0}

header_fits : (s : List ℕ) → FitsHeader (header s)
unfolding header header_from
header_fits s = go (unreadable_line 0 (through (take 64 (lines s))))
  where
    met : List (List ℕ)
    met = through (take 64 (lines s))

    go : (o : Option ℕ) → FitsHeader (answer o (preamble_of missing met) (last_columns met) (0 + total met))
    go (Some n) = tt
    go None = preamble_fits met missing (tt, tt)

peer_fits : (r : Option IpAddr) → FitsAddressRead r → FitsAddress (peer_ip r)
peer_fits (Some a) h = h
peer_fits None h = omega arith

asn_fits : (n : Option ℕ) → FitsNumber n → (peer_asn n).0 ≤ 4294967295
asn_fits (Some n) h = h
asn_fits None h = omega arith

-- a state that opening answers fits
pub opened_fits : (time : Float) (s : List ℕ) (σ : State) → T (fits binary64 time) → open_of time s ≡ opened σ → Fits σ
opened_fits time s σ f h =
    let i = found_header time s σ h in
    let g : FitsHeader (Ok (i.preamble, i.behind)) = rw i.read at (header_fits s) in
    subst Fits (sym i.state)
    (record { peer = peer_fits i.preamble.router_id g.0; asn = asn_fits i.preamble.local_as g.1; float = f; timestamp = subst T (sym i.is_time) tt; remembered = tt })
