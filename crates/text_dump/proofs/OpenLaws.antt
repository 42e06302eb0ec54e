-- What opening answers, case by case.
use Rattle.std.specs.Prelude.{Option, Some, None, Result, Ok, Err, ok_or}
use Rattle.std.specs.Result.{IsErrAnd}
use Prim.Native.Nat.{ℕ}
use mathlib.Core.Path.{◌≡◌, refl, ap, ◌∙◌}
use mathlib.Core.Bool.{Bool, true, false, not, cond}
use mathlib.Core.List.{List, ◌++◌}
use native.Mathlib.Omega.{arith}
use borrow.Author.Tests.{not-true, not-false}
use lib.Ieee.{Float}
use Rattle.scan.specs.Lines.{Cut}
use Rattle.columns.specs.Columns.{are_rising}
use Rattle.columns.specs.declared.Columns.{Columns}
use Rattle.network.specs.declared.Asn.{Asn}
use Rattle.network.specs.declared.IpAddr.{IpAddr}
use Rattle.seconds.specs.Seconds.{is_timestamp}
use Rattle.text_dump_header.specs.Header.{header}
use Rattle.text_dump_header.specs.declared.TextDumpHeader.{TextDumpHeader}
use Rattle.text_dump_header.specs.declared.HeaderError.{HeaderError}
use Rattle.text_dump_header.specs.declared.HeaderError.TheVariants.{Unreadable as UnreadableLine}
use Rattle.text_dump_header.proofs.AppendLaws.{header_append, header_columns_rise}
use Rattle.text_dump.specs.Open.{of_header, opened, refused, peer_ip, peer_asn, open_at, open_with, open_of, told}
use Rattle.text_dump.specs.declared.State.{State}
use Rattle.text_dump.specs.declared.Remembered.TheVariants.{Nothing}
use Rattle.text_dump.specs.declared.OpenError.{OpenError}
use Rattle.text_dump.specs.declared.OpenError.TheVariants.{NoColumns, NoTimestamp, Unreadable}

module _ (s : List ℕ) (time : Float) (t : Bool) (et : t ≡ is_timestamp time) where
  pub no_timestamp : not t ≡ true → told (Err NoTimestamp) ≡ open_of time s
  unfolding open_of
  no_timestamp h = rw (← et, not-true t h)

  module _ (h : not t ≡ false) (r : Result (TextDumpHeader × ℕ) HeaderError) (er : r ≡ header s) where
    pub unreadable_header : (n : ℕ) → r ≡ Err (UnreadableLine n) → told (Err (Unreadable n)) ≡ open_of time s
    unfolding open_of
    unreadable_header n e = rw (← et, not-false t h, ← er, e)

    pub fault_header : (x : HeaderError) → r ≡ Err x → (q : Result State OpenError) → IsErrAnd q (λ y. y ≡ of_header x) → told q ≡ open_of time s
    fault_header x e (Ok σ) g = absurd g
    fault_header (UnreadableLine n) e (Err y) g = ap (λ (z : OpenError). told (Err z)) g ∙ unreadable_header n e

    module _ (d : TextDumpHeader) (at : ℕ) (e : r ≡ Ok (d, at)) where
      pub no_columns : d.columns ≡ None → told (Err NoColumns) ≡ open_of time s
      unfolding open_of
      no_columns g = rw (← et, not-false t h, ← er, e, g)

      pub fault_columns : (x : OpenError) → Err x ≡ ok_or d.columns NoColumns → (q : Result State OpenError) → IsErrAnd q (λ y. y ≡ x) → told q ≡ open_of time s
      fault_columns x f (Ok σ) g = absurd g
      fault_columns x f (Err y) g = go d.columns refl f
        where
          go : (k : Option Columns) → d.columns ≡ k → Err x ≡ ok_or k NoColumns → told (Err y) ≡ open_of time s
          go None w v = let z : x ≡ NoColumns = cc in ap (λ (u : OpenError). told (Err u)) (g ∙ z) ∙ no_columns w
          go (Some c) w v = let z : ◌≡◌ {A = ℕ} 0 1 = cc in absurd (omega arith)

      pub has_columns : (c : Columns) → Ok c ≡ ok_or d.columns NoColumns → d.columns ≡ Some c
      has_columns c f = go d.columns refl f
        where
          go : (k : Option Columns) → d.columns ≡ k → Ok c ≡ ok_or k NoColumns → d.columns ≡ Some c
          go None w v = let z : ◌≡◌ {A = ℕ} 0 1 = cc in absurd (omega arith)
          go (Some b) w v = cc

      pub opens : (c : Columns) → d.columns ≡ Some c → (ip : IpAddr) → ip ≡ peer_ip d.router_id → (asn : Asn) → asn ≡ peer_asn d.local_as
          → told (Ok (record { columns = c; peer_ip = ip; peer_asn = asn; timestamp = time; remembered = Nothing; position = at })) ≡ open_of time s
      unfolding open_of
      opens c g ip ei asn ea = rw (ei, ea) (rw (← et, not-false t h, ← er, e, g))

-- what follows the column line does not change what opening answers
refused_opens : (A : Type 0) (n l : ℕ) (σ : State) → refused n l ≡ opened σ → A
refused_opens A n l σ e = let z : ◌≡◌ {A = ℕ} 0 1 = cc in absurd (omega arith)

module _ (time : Float) (s : List ℕ) (σ : State) where
  -- what opening found, where it answered the state σ: a timestamp, and a header with columns
  pub record FoundHeader : Type 0 where
    pub is_time : is_timestamp time ≡ true
    pub preamble : TextDumpHeader
    pub behind : ℕ
    pub columns : Columns
    pub read : header s ≡ Ok (preamble, behind)
    pub found : preamble.columns ≡ Some columns
    pub state : σ ≡ record { columns = columns; peer_ip = peer_ip preamble.router_id; peer_asn = peer_asn preamble.local_as; timestamp = time; remembered = Nothing; position = behind }

  pub found_header : open_of time s ≡ opened σ → FoundHeader
  unfolding open_of
  found_header = go (is_timestamp time) refl (header s) refl
    where
      last : is_timestamp time ≡ true → (h : TextDumpHeader) (at : ℕ) → header s ≡ Ok (h, at) → (c : Option Columns) → h.columns ≡ c → open_at time h at c ≡ opened σ → FoundHeader
      last t h at e (Some c) f g = record { is_time = t; preamble = h; behind = at; columns = c; read = e; found = f; state = cc }
      last t h at e None f g = refused_opens FoundHeader 2 0 σ g

      go : (b : Bool) → is_timestamp time ≡ b → (r : Result (TextDumpHeader × ℕ) HeaderError) → header s ≡ r → cond b (open_with time r) (refused 4 0) ≡ opened σ → FoundHeader
      go true t (Ok (h, at)) e g = last t h at e h.columns refl g
      go true t (Err (UnreadableLine n)) e g = refused_opens FoundHeader 1 n σ g
      go false t r e g = refused_opens FoundHeader 4 0 σ g

  module _ (opens : open_of time s ≡ opened σ) where
    found_it : FoundHeader
    found_it = found_header opens

    pub open_append : (t : List ℕ) → Cut s → open_of time (s ++ t) ≡ opened σ
    unfolding open_of
    open_append t cut =
        ap (λ (r : Result (TextDumpHeader × ℕ) HeaderError). cond (is_timestamp time) (open_with time r) (refused 4 0)) (header_append s t cut found_it.preamble found_it.behind found_it.columns found_it.read found_it.found)
        ∙ opens

    pub opened_rising : are_rising σ.columns ≡ true
    opened_rising = ap (λ (x : State). are_rising x.columns) found_it.state ∙ header_columns_rise s found_it.preamble found_it.behind found_it.columns found_it.read found_it.found

    pub opened_time : is_timestamp σ.timestamp ≡ true
    opened_time = ap (λ (x : State). is_timestamp x.timestamp) found_it.state ∙ found_it.is_time

    pub opened_nothing : σ.remembered ≡ Nothing
    opened_nothing = ap (λ (x : State). x.remembered) found_it.state
