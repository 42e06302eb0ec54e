-- Words that spell a state are that state's words, and the state fits: with `spells` (RoundTrip), sixteen words spell a state exactly when they are
-- the words of one that fits. Assumes nothing.
use Rattle.std.specs.Prelude.{Option, Some, None}
use mathlib.Core.Path.{◌≡◌, refl, sym, ap, ◌∙◌, subst}
use mathlib.Core.Bool.{Bool, true, false, cond, ◌&&◌}
use mathlib.Core.List.{List, [], ◌∷◌}
use Prim.Native.Nat.{ℕ, suc, ◌≤◌, ◌<◌, ◌^◌}
use native.Mathlib.Omega.{arith}
use lib.ListN.{length, get_or, drop, drop_of_length-le}
use lib.Seq.{drop-cons}
use lib.Dec.{T, eqb, leb}
use lib.Ieee.{Float, binary64, to_bits, of_bits}
use lib.Ieee.Bits.{to_bits-of_bits, of_bits-fits}
use borrow.Author.Tests.{eqb-true, leb-true}
use Rattle.seconds.specs.Seconds.{is_timestamp}
use Rattle.seconds.proofs.Inverse.{no_nan}
use Rattle.network.specs.declared.IpAddr.{IpAddr}
use Rattle.network.specs.declared.IpAddr.TheVariants.{V4, V6}
use Rattle.network.specs.declared.NetworkPrefix.{NetworkPrefix}
use Rattle.text_dump.specs.declared.Remembered.{Remembered}
use Rattle.text_dump.specs.declared.Remembered.TheVariants.{Nothing, Invalid, Valid}
use Rattle.text_dump.specs.declared.State.{State}
use Rattle.codec.specs.Words.{address_words, remembered_words, state_words}
use Rattle.codec.specs.Spelling.{address_of, with_length, prefix_of, as_valid, remembered_of, with_peer, with_remembered, state_but_time, state_of, FitsAddress, FitsPrefix, FitsRemembered, Fits}
use Rattle.codec.specs.declared.AddressWords.{AddressWords}
use Rattle.codec.specs.declared.RememberedWords.{RememberedWords}

clash : {A : Type 0} {x : A} → None ≡ Some x → ⊥
clash h = let z : ◌≡◌ {A = ℕ} 0 1 = cc in omega arith

inside : {A : Type 0} {x y : A} → Some x ≡ Some y → x ≡ y
inside h = cc

-- an address
abbrev address : ℕ → ℕ → ℕ → AddressWords
address k u l = record { kind = k; upper = u; lower = l }

module _ (k u l : ℕ) (a : IpAddr) where
  address_spelled : address_of k u l ≡ Some a → (address_words a ≡ address k u l) × FitsAddress a
  unfolding address_of
  address_spelled h = go (eqb k 1) refl h
    where
      v4 : (x y z : Bool) → eqb k 0 ≡ x → eqb u 0 ≡ y → leb l 4294967295 ≡ z → cond (x && y && z) (Some (V4 l)) None ≡ Some a → (address_words a ≡ address k u l) × FitsAddress a
      v4 true true true e f g h =
          let is : V4 l ≡ a = inside h in
          (sym (ap address_words is) ∙ rw (eqb-true k 0 e, eqb-true u 0 f), subst FitsAddress is (leb-true l 4294967295 g))
      v4 true true false e f g h = absurd (clash h)
      v4 true false z e f g h = absurd (clash h)
      v4 false y z e f g h = absurd (clash h)

      go : (b : Bool) → eqb k 1 ≡ b → cond b (Some (V6 u l)) (cond (eqb k 0 && eqb u 0 && leb l 4294967295) (Some (V4 l)) None) ≡ Some a → (address_words a ≡ address k u l) × FitsAddress a
      go true e h = let is : V6 u l ≡ a = inside h in (sym (ap address_words is) ∙ rw (eqb-true k 1 e), subst FitsAddress is tt)
      go false e h = v4 (eqb k 0) (eqb u 0) (leb l 4294967295) refl refl refl h

-- the remembered prefix
abbrev remembered : ℕ → ℕ → ℕ → ℕ → ℕ → RememberedWords
remembered m k u l n = record { kind = m; addr = address k u l; len = n }

module _ (k u l n : ℕ) (p : NetworkPrefix) where
  prefix_spelled : prefix_of k u l n ≡ Some p → (address_words p.addr ≡ address k u l) × (p.len ≡ n) × FitsPrefix p
  unfolding prefix_of
  prefix_spelled h = go (address_of k u l) refl h
    where
      long : (a : IpAddr) → address_of k u l ≡ Some a → (b : Bool) → leb n 255 ≡ b → cond b (Some (record { addr = a; len = n })) None ≡ Some p
          → (address_words p.addr ≡ address k u l) × (p.len ≡ n) × FitsPrefix p
      long a e true f h =
          let is : record { addr = a; len = n } ≡ p = inside h in
          let s = address_spelled k u l a e in
          subst (λ (q : NetworkPrefix). (address_words q.addr ≡ address k u l) × (q.len ≡ n) × FitsPrefix q) is (s.0, refl, (s.1, leb-true n 255 f))
      long a e false f h = absurd (clash h)

      go : (o : Option IpAddr) → address_of k u l ≡ o → with_length n o ≡ Some p → (address_words p.addr ≡ address k u l) × (p.len ≡ n) × FitsPrefix p
      go (Some a) e h = long a e (leb n 255) refl h
      go None e h = absurd (clash h)

module _ (m k u l n : ℕ) (x : Remembered) where
  remembered_spelled : remembered_of m k u l n ≡ Some x → (remembered_words x ≡ remembered m k u l n) × FitsRemembered x
  unfolding remembered_of
  remembered_spelled h = go (eqb m 2) refl h
    where
      valid : m ≡ 2 → (o : Option NetworkPrefix) → prefix_of k u l n ≡ o → as_valid o ≡ Some x → (remembered_words x ≡ remembered m k u l n) × FitsRemembered x
      valid two (Some p) e h =
          let is : Valid p ≡ x = inside h in
          let s = prefix_spelled k u l n p e in
          (sym (ap remembered_words is) ∙ rw (s.0, s.1, two), subst FitsRemembered is s.2)
      valid two None e h = absurd (clash h)

      kind : remembered m 0 0 0 0 ≡ remembered m k u l n → (a b : Bool) → eqb m 0 ≡ a → eqb m 1 ≡ b → cond a (Some Nothing) (cond b (Some Invalid) None) ≡ Some x
          → (remembered_words x ≡ remembered m k u l n) × FitsRemembered x
      kind z true b e f h = let is : Nothing ≡ x = inside h in (sym (ap remembered_words is) ∙ ap (λ (j : ℕ). remembered j 0 0 0 0) (sym (eqb-true m 0 e)) ∙ z, subst FitsRemembered is tt)
      kind z false true e f h = let is : Invalid ≡ x = inside h in (sym (ap remembered_words is) ∙ ap (λ (j : ℕ). remembered j 0 0 0 0) (sym (eqb-true m 1 f)) ∙ z, subst FitsRemembered is tt)
      kind z false false e f h = absurd (clash h)

      empty : (a b c d : Bool) → eqb k 0 ≡ a → eqb u 0 ≡ b → eqb l 0 ≡ c → eqb n 0 ≡ d
          → cond (a && b && c && d) (cond (eqb m 0) (Some Nothing) (cond (eqb m 1) (Some Invalid) None)) None ≡ Some x
          → (remembered_words x ≡ remembered m k u l n) × FitsRemembered x
      empty true true true true e f g i h = kind (rw (eqb-true k 0 e, eqb-true u 0 f, eqb-true l 0 g, eqb-true n 0 i)) (eqb m 0) (eqb m 1) refl refl h
      empty true true true false e f g i h = absurd (clash h)
      empty true true false d e f g i h = absurd (clash h)
      empty true false c d e f g i h = absurd (clash h)
      empty false b c d e f g i h = absurd (clash h)

      go : (b : Bool) → eqb m 2 ≡ b
          → cond b (as_valid (prefix_of k u l n)) (cond (eqb k 0 && eqb u 0 && eqb l 0 && eqb n 0) (cond (eqb m 0) (Some Nothing) (cond (eqb m 1) (Some Invalid) None)) None) ≡ Some x
          → (remembered_words x ≡ remembered m k u l n) × FitsRemembered x
      go true e h = valid (eqb-true m 2 e) (prefix_of k u l n) refl h
      go false e h = empty (eqb k 0) (eqb u 0) (eqb l 0) (eqb n 0) refl refl refl refl h

-- the timestamp
timestamp_spelled : (b : ℕ) → T (is_timestamp (of_bits binary64 b)) → b < 2 ^ 64 → to_bits binary64 (of_bits binary64 b) ≡ b
timestamp_spelled b h small = to_bits-of_bits binary64 b small (no_nan (of_bits binary64 b) h)

-- sixteen words
listed : (w : List ℕ) → length w ≡ 16
    → w ≡ get_or w 0 0 ∷ get_or w 1 0 ∷ get_or w 2 0 ∷ get_or w 3 0 ∷ get_or w 4 0 ∷ get_or w 5 0 ∷ get_or w 6 0 ∷ get_or w 7 0 ∷ get_or w 8 0 ∷ get_or w 9 0 ∷ get_or w 10 0 ∷ get_or w 11 0 ∷ get_or w 12 0 ∷ get_or w 13 0 ∷ get_or w 14 0 ∷ get_or w 15 0 ∷ []
listed w h = from 0 (omega arith) (from 1 (omega arith) (from 2 (omega arith) (from 3 (omega arith) (from 4 (omega arith) (from 5 (omega arith) (from 6 (omega arith) (from 7 (omega arith) (from 8 (omega arith) (from 9 (omega arith) (from 10 (omega arith) (from 11 (omega arith) (from 12 (omega arith) (from 13 (omega arith) (from 14 (omega arith) (from 15 (omega arith) (drop_of_length-le w all))))))))))))))))
  where
    all : length w ≤ 16
    all = omega arith

    from : (i : ℕ) {l : List ℕ} → i < 16 → drop (suc i) w ≡ l → drop i w ≡ get_or w i 0 ∷ l
    from i b e = drop-cons w i 0 (omega arith) ∙ ap (λ (l : List ℕ). get_or w i 0 ∷ l) e

module _ (w : List ℕ) (σ : State) where
  -- of sixteen numbers that are words, so that the timestamp's is below 2 ^ 64
  abbrev pub ItsWords : State → Type 0
  ItsWords τ = length w ≡ 16 → get_or w 9 0 < 2 ^ 64 → w ≡ state_words τ

  pub spelled : state_of w ≡ Some σ → ItsWords σ × Fits σ
  unfolding state_of state_but_time state_words
  spelled h = by_time (is_timestamp at) refl h
    where
      at : Float
      at = of_bits binary64 (get_or w 9 0)

      all : T (is_timestamp at) → (a : IpAddr) → address_of (get_or w 5 0) (get_or w 6 0) (get_or w 7 0) ≡ Some a → get_or w 8 0 ≤ 4294967295
          → (m : Option Remembered) → remembered_of (get_or w 10 0) (get_or w 11 0) (get_or w 12 0) (get_or w 13 0) (get_or w 14 0) ≡ m
          → with_remembered w a at m ≡ Some σ → ItsWords σ × Fits σ
      all t a ea en (Some m) em h =
          let p = address_spelled (get_or w 5 0) (get_or w 6 0) (get_or w 7 0) a ea in
          let r = remembered_spelled (get_or w 10 0) (get_or w 11 0) (get_or w 12 0) (get_or w 13 0) (get_or w 14 0) m em in
          subst (λ (τ : State). ItsWords τ × Fits τ) (inside h)
          (λ size small. listed w size ∙ sym (rw (p.0, timestamp_spelled (get_or w 9 0) t small, r.0)), record { peer = p.1; asn = en; float = of_bits-fits binary64 (get_or w 9 0); timestamp = t; remembered = r.1 })
      all t a ea en None em h = absurd (clash h)

      by_asn : T (is_timestamp at) → (a : IpAddr) → address_of (get_or w 5 0) (get_or w 6 0) (get_or w 7 0) ≡ Some a → (b : Bool) → leb (get_or w 8 0) 4294967295 ≡ b
          → cond b (with_remembered w a at (remembered_of (get_or w 10 0) (get_or w 11 0) (get_or w 12 0) (get_or w 13 0) (get_or w 14 0))) None ≡ Some σ → ItsWords σ × Fits σ
      by_asn t a ea true eb h = all t a ea (leb-true (get_or w 8 0) 4294967295 eb) (remembered_of (get_or w 10 0) (get_or w 11 0) (get_or w 12 0) (get_or w 13 0) (get_or w 14 0)) refl h
      by_asn t a ea false eb h = absurd (clash h)

      by_peer : T (is_timestamp at) → (o : Option IpAddr) → address_of (get_or w 5 0) (get_or w 6 0) (get_or w 7 0) ≡ o → with_peer w o ≡ Some σ → ItsWords σ × Fits σ
      by_peer t (Some a) ea h = by_asn t a ea (leb (get_or w 8 0) 4294967295) refl h
      by_peer t None ea h = absurd (clash h)

      by_time : (b : Bool) → is_timestamp at ≡ b → cond b (state_but_time w) None ≡ Some σ → ItsWords σ × Fits σ
      by_time true e h = by_peer (subst T (sym e) tt) (address_of (get_or w 5 0) (get_or w 6 0) (get_or w 7 0)) refl h
      by_time false e h = absurd (clash h)
