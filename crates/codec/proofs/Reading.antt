-- Whether words spell a state, and the state that they spell then: one law for each way through the code. Assumes nothing.
use Rattle.std.specs.Prelude.{is_some, Option, Some, None}
use mathlib.Core.Path.{◌≡◌, refl, sym, ap, ◌∙◌}
use mathlib.Core.Bool.{Bool, true, false, cond, ◌&&◌}
use mathlib.Core.List.{List}
use Prim.Native.Nat.{ℕ, ◌≤◌, ◌<◌}
use native.Mathlib.Omega.{arith}
use lib.ListN.{get_or}
use lib.Dec.{eqb, leb}
use lib.Ieee.{Float, binary64, of_bits}
use borrow.Author.Tests.{leb-true, eq-eqb, ne_eqb, le-leb, lt-leb}
use Rattle.network.specs.declared.IpAddr.{IpAddr}
use Rattle.network.specs.declared.IpAddr.TheVariants.{V4, V6}
use Rattle.seconds.specs.Seconds.{is_timestamp, timestamp_of_bits}
use Rattle.text_dump.specs.declared.Remembered.{Remembered}
use Rattle.text_dump.specs.declared.Remembered.TheVariants.{Nothing, Invalid, Valid}
use Rattle.text_dump.specs.declared.State.{State}
use Rattle.codec.specs.Spelling.{address_of, prefix_of, remembered_of, with_remembered, with_peer, state_but_time, state_of}

-- an address
module _ (k u l : ℕ) where
  abbrev v4 : Bool
  v4 = eqb k 0 && eqb u 0 && leb l 4294967295

  pub v6_told : k ≡ 1 → Some (V6 u l) ≡ address_of k u l
  unfolding address_of
  v6_told h = simp (eq-eqb k 1 h)

  pub v4_fits : v4 ≡ true → l ≤ 4294967295
  v4_fits h = leb-true l 4294967295 (and_right (eqb k 0 && eqb u 0) (leb l 4294967295) h)
    where
      and_right : (a b : Bool) → (a && b) ≡ true → b ≡ true
      and_right true b h = h
      and_right false b h = let z : ◌≡◌ {A = ℕ} 0 1 = cc in absurd (omega arith)

  module _ (other : k ≡ 1 → ⊥) where
    pub v4_told : v4 ≡ true → Some (V4 l) ≡ address_of k u l
    unfolding address_of
    v4_told h = rw (ne_eqb k 1 other, h)

    pub no_address : v4 ≡ false → None ≡ address_of k u l
    unfolding address_of
    no_address h = rw (ne_eqb k 1 other, h)

-- the remembered prefix
module _ (m k u l n : ℕ) where
  abbrev unused : Bool
  unused = eqb k 0 && eqb u 0 && eqb l 0 && eqb n 0

  module _ (two : m ≡ 2) (r : Option IpAddr) (is : r ≡ address_of k u l) where
    pub no_prefix : r ≡ None → None ≡ remembered_of m k u l n
    unfolding remembered_of prefix_of
    no_prefix h = rw (eq-eqb m 2 two, ← is, h)

    module _ (a : IpAddr) (h : r ≡ Some a) where
      pub too_long : 255 < n → None ≡ remembered_of m k u l n
      unfolding remembered_of prefix_of
      too_long long = rw (eq-eqb m 2 two, ← is, h, lt-leb n 255 long)

      pub valid_told : n ≤ 255 → Some (Valid (record { addr = a; len = n })) ≡ remembered_of m k u l n
      unfolding remembered_of prefix_of
      valid_told short = rw (eq-eqb m 2 two, ← is, h, le-leb n 255 short)

  module _ (other : m ≡ 2 → ⊥) where
    pub in_use : unused ≡ false → None ≡ remembered_of m k u l n
    unfolding remembered_of
    in_use h = rw (ne_eqb m 2 other, h)

    module _ (h : unused ≡ true) where
      pub nothing_told : m ≡ 0 → Some Nothing ≡ remembered_of m k u l n
      unfolding remembered_of
      nothing_told e = rw (ne_eqb m 2 other, h, eq-eqb m 0 e)

      pub invalid_told : m ≡ 1 → Some Invalid ≡ remembered_of m k u l n
      unfolding remembered_of
      invalid_told e = rw (ne_eqb m 2 other, h, e)

      pub no_kind : (m ≡ 0 → ⊥) → (m ≡ 1 → ⊥) → None ≡ remembered_of m k u l n
      unfolding remembered_of
      no_kind d e = rw (ne_eqb m 2 other, h, ne_eqb m 0 d, ne_eqb m 1 e)

-- a state
abbrev pub if_timed : Option State → Option State
if_timed (Some σ) = cond (is_timestamp σ.timestamp) (Some σ) None
if_timed None = None

module _ (w : List ℕ) where
  abbrev peer : Option IpAddr
  peer = address_of (get_or w 5 0) (get_or w 6 0) (get_or w 7 0)

  abbrev at : Float
  at = of_bits binary64 (get_or w 9 0)

  abbrev memory : Option Remembered
  memory = remembered_of (get_or w 10 0) (get_or w 11 0) (get_or w 12 0) (get_or w 13 0) (get_or w 14 0)

  module _ (r : Option IpAddr) (is : r ≡ peer) where
    pub no_peer : r ≡ None → None ≡ state_but_time w
    unfolding state_but_time
    no_peer h = rw (← is, h)

    module _ (a : IpAddr) (h : r ≡ Some a) where
      pub no_asn : 4294967295 < get_or w 8 0 → None ≡ state_but_time w
      unfolding state_but_time
      no_asn large = rw (← is, h, lt-leb (get_or w 8 0) 4294967295 large)

      module _ (fits : get_or w 8 0 ≤ 4294967295) (t : Float) (time : t ≡ at) (m : Option Remembered) (told : m ≡ memory) where
        pub no_memory : m ≡ None → None ≡ state_but_time w
        unfolding state_but_time
        no_memory e = rw (← is, h, le-leb (get_or w 8 0) 4294967295 fits, ← told, e)

        pub state_told : (x : Remembered) → m ≡ Some x → with_remembered w a t (Some x) ≡ state_but_time w
        unfolding state_but_time
        state_told x e = rw (← is, h, le-leb (get_or w 8 0) 4294967295 fits, ← told, e, time)

  -- the timestamp is tested before the rest
  module _ (t : Option Float) (is : t ≡ timestamp_of_bits (get_or w 9 0)) (p : Bool) (test : p ≡ is_some t) where
    both_tested : (p && is_some (state_but_time w)) ≡ is_some (state_of w)
    unfolding state_of timestamp_of_bits
    both_tested = rw (test, is) (go (is_timestamp at))
      where
        go : (b : Bool) → (is_some (cond b (Some at) None) && is_some (state_but_time w)) ≡ is_some (cond b (state_but_time w) None)
        go true = refl
        go false = refl

    pub timed_tested : p ≡ true → (o : Option State) → o ≡ state_but_time w → (q : Bool) → q ≡ is_some o → q ≡ is_some (state_of w)
    timed_tested h o e q eq = eq ∙ ap is_some e ∙ rw h at both_tested

    pub untimed_tested : p ≡ false → p ≡ is_some (state_of w)
    untimed_tested h = h ∙ rw h at both_tested

  -- the timestamp of a state but for its time, and what its test leaves
  abbrev time_of : Option State → Float
  time_of (Some σ) = σ.timestamp
  time_of None = at

  its_time : time_of (state_but_time w) ≡ at
  unfolding state_but_time
  its_time = go peer
    where
      remembers : (a : IpAddr) (m : Option Remembered) → time_of (with_remembered w a at m) ≡ at
      remembers a (Some m) = refl
      remembers a None = refl

      tests : (a : IpAddr) (b : Bool) → time_of (cond b (with_remembered w a at memory) None) ≡ at
      tests a true = remembers a memory
      tests a false = refl

      go : (o : Option IpAddr) → time_of (with_peer w o) ≡ at
      go (Some a) = tests a (leb (get_or w 8 0) 4294967295)
      go None = refl

  pub if_timed_lem : (o : Option State) → state_but_time w ≡ o → state_of w ≡ if_timed o
  unfolding state_of
  if_timed_lem (Some σ) e = ap (λ (o : Option State). cond (is_timestamp at) o None) e ∙ ap (λ (t : Float). cond (is_timestamp t) (Some σ) None) (sym its_time ∙ ap time_of e)
  if_timed_lem None e = ap (λ (o : Option State). cond (is_timestamp at) o None) e ∙ go (is_timestamp at)
    where
      go : (b : Bool) → cond {A = Option State} b None None ≡ None
      go true = refl
      go false = refl
