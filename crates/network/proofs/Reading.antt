-- Laws of reading addresses and prefixes.
use Rattle.std.specs.Prelude.{Option, Some, None, unwrap_or}
use mathlib.Core.Path.{◌≡◌, refl, sym, ap, ◌∙◌}
use mathlib.Core.List.{List, [], ◌∷◌}
use mathlib.Core.Bool.{Bool, true, false, cond}
use Prim.Native.Nat.{ℕ, zero, suc, ◌+◌, ◌-◌, ◌^◌, ◌≤◌, ◌<◌}
use native.Mathlib.Omega.{arith}
use lib.ListN.{length, get_or, take, drop, length-drop}
use lib.Seq.{take_all, get_or-drop}
use lib.Dec.{leb, ltb}
use borrow.Author.Tests.{ltb-true, le-ltb, lt-ltb, lt-leb, le-leb, eq-eqb, ne_eqb, ltb-false}
use Rattle.decimal.specs.Decimal.{digits, below}
use Rattle.ipv4.specs.Ipv4.{ipv4}
use Rattle.ipv6.specs.Ipv6.{ipv6, as_ipv6, upper, lower}
use Rattle.network.specs.Address.{either, address}
use Rattle.network.specs.Prefix.{last_place, length_of, length_for, with_length, prefix_of, prefix, valid_prefix}
use Rattle.network.specs.declared.IpAddr.{IpAddr}
use Rattle.network.specs.declared.IpAddr.TheVariants.{V4, V6}
use Rattle.network.specs.declared.NetworkPrefix.{NetworkPrefix}

-- IPv4, else IPv6
module _ (s : List ℕ) (x : Option ℕ) (hx : x ≡ ipv4 s) where
  pub address_v4 : (n : ℕ) → x ≡ Some n → Some (V4 n) ≡ address s
  unfolding address
  address_v4 n e = go (ipv4 s) (sym e ∙ hx)
    where
      go : (m : Option ℕ) → Some n ≡ m → Some (V4 n) ≡ either m (ipv6 s)
      go (Some k) f = let z : n ≡ k = cc in rw z
      go None f = let z : ◌≡◌ {A = ℕ} 0 1 = cc in absurd (omega arith)

  module _ (e : x ≡ None) (y : Option (ℕ × ℕ)) (hy : y ≡ as_ipv6 (ipv6 s)) where
    second : address s ≡ either None (ipv6 s)
    unfolding address
    second = go (ipv4 s) (sym e ∙ hx)
      where
        go : (m : Option ℕ) → None ≡ m → either m (ipv6 s) ≡ either None (ipv6 s)
        go (Some k) f = let z : ◌≡◌ {A = ℕ} 0 1 = cc in absurd (omega arith)
        go None f = refl

    pub address_none : y ≡ None → None ≡ address s
    address_none f = rw second (go (ipv6 s) (sym f ∙ hy))
      where
        go : (m : Option (List ℕ)) → None ≡ as_ipv6 m → None ≡ either None m
        go (Some gs) f = let z : ◌≡◌ {A = ℕ} 0 1 = cc in absurd (omega arith)
        go None f = refl

    pub address_v6 : (u l : ℕ) → y ≡ Some (u, l) → Some (V6 u l) ≡ address s
    address_v6 u l f = rw second (go (ipv6 s) (sym f ∙ hy))
      where
        go : (m : Option (List ℕ)) → Some (u, l) ≡ as_ipv6 m → Some (V6 u l) ≡ either None m
        go (Some gs) f =
            let z : u ≡ upper gs = ap (λ (a : Option (ℕ × ℕ)). (unwrap_or a (0, 0)).0) f in
            let w : l ≡ lower gs = ap (λ (a : Option (ℕ × ℕ)). (unwrap_or a (0, 0)).1) f in
            rw (z, w)
        go None f = let z : ◌≡◌ {A = ℕ} 0 1 = cc in absurd (omega arith)

-- the length
pub length_long : (w m : ℕ) (t : List ℕ) → w < length t → None ≡ length_of w m t
unfolding length_of
length_long w m t h = simp (lt-leb (length t) w h)

module _ (w m : ℕ) (t : List ℕ) (h : length t ≤ w) (x : Option ℕ) (hx : x ≡ below (2 ^ 64) (digits t)) where
  pub length_none : x ≡ None → m ≤ 255 → None ≡ length_of w m t
  unfolding length_of
  length_none e l = simp (le-leb (length t) w h) (go (digits t) (sym e ∙ hx))
    where
      size : (n : ℕ) (u : Bool) → ltb n (2 ^ 64) ≡ u → None ≡ cond u (Some n) None → None ≡ below (m + 1) (Some n)
      size n true p f = let z : ◌≡◌ {A = ℕ} 0 1 = cc in absurd (omega arith)
      size n false p f = simp (le-ltb n (m + 1) (omega (arith, ltb-false n (2 ^ 64) p)))

      go : (d : Option ℕ) → None ≡ below (2 ^ 64) d → None ≡ below (m + 1) d
      go (Some n) f = size n (ltb n (2 ^ 64)) refl f
      go None f = refl

  module _ (n : ℕ) (e : x ≡ Some n) where
    value : length_of w m t ≡ below (m + 1) (Some n)
    unfolding length_of
    value = simp (le-leb (length t) w h) (go (digits t) (sym e ∙ hx))
      where
        size : (k : ℕ) (u : Bool) → Some n ≡ cond u (Some k) None → below (m + 1) (Some k) ≡ below (m + 1) (Some n)
        size k true f = let z : k ≡ n = cc in rw z
        size k false f = let z : ◌≡◌ {A = ℕ} 0 1 = cc in absurd (omega arith)

        go : (d : Option ℕ) → Some n ≡ below (2 ^ 64) d → below (m + 1) d ≡ below (m + 1) (Some n)
        go (Some k) f = size k (ltb k (2 ^ 64)) f
        go None f = let z : ◌≡◌ {A = ℕ} 0 1 = cc in absurd (omega arith)

    pub length_over : m < n → None ≡ length_of w m t
    length_over l = rw value (simp (le-ltb n (m + 1) (omega arith)))

    pub length_some : n ≤ m → Some n ≡ length_of w m t
    length_some l = rw value (simp (lt-ltb n (m + 1) (omega arith)))

pub length_v4 : (a : IpAddr) (n : ℕ) (t : List ℕ) (r : Option ℕ) → a ≡ V4 n → r ≡ length_of 2 32 t → r ≡ length_for a t
length_v4 a n t r e f = f ∙ rw e

pub length_v6 : (a : IpAddr) (u l : ℕ) (t : List ℕ) (r : Option ℕ) → a ≡ V6 u l → r ≡ length_of 3 128 t → r ≡ length_for a t
length_v6 a u l t r e f = f ∙ rw e

pub valid_v4 : (p : NetworkPrefix) (n : ℕ) → p.addr ≡ V4 n → leb p.len 32 ≡ valid_prefix p
valid_v4 p n e = rw e

pub valid_v6 : (p : NetworkPrefix) (u l : ℕ) → p.addr ≡ V6 u l → leb p.len 128 ≡ valid_prefix p
valid_v6 p u l e = rw e

-- the last place, from behind: no c stands behind j
last_at : (c : ℕ) (s : List ℕ) (j : ℕ) → j < length s → get_or s j 0 ≡ c → last_place c (drop (suc j) s) ≡ length (drop (suc j) s) → j ≡ last_place c s
unfolding last_place
last_at c [] j h e f = absurd (omega arith)
last_at c (b ∷ s) zero h e f = simp (le-ltb (last_place c s) (length s) (omega arith), eq-eqb b c e)
last_at c (b ∷ s) (suc j) h e f =
    let z : j ≡ last_place c s = last_at c s j (omega arith) e f in simp (lt-ltb (last_place c s) (length s) (omega arith), ← z)

pub last_here : (c : ℕ) (s : List ℕ) (i : ℕ) → 0 < i → i ≤ length s → last_place c (drop i s) ≡ length (drop i s) → get_or s (i - 1) 0 ≡ c → i - 1 ≡ last_place c s
last_here c s i p h f e = let z : suc (i - 1) ≡ i = omega arith in last_at c s (i - 1) (omega arith) e (rw z f)

-- a list without c has no last place of it
pub last_none : (c : ℕ) (s : List ℕ) → ((j : ℕ) → j < length s → get_or s j 0 ≡ c → ⊥) → last_place c s ≡ length s
unfolding last_place
last_none c [] h = refl
last_none c (b ∷ s) h =
    let z : last_place c s ≡ length s = last_none c s (λ j l. h (suc j) (omega arith)) in
    simp (z, le-ltb (length s) (length s) (omega arith), ne_eqb b c (h 0 (omega arith)))

-- the place that a search from the end answers
pub last_found : (c : ℕ) (s : List ℕ) (r : Option ℕ) → ((i : ℕ) → r ≡ Some i → i < length s) → ((i : ℕ) → r ≡ Some i → get_or s i 0 ≡ c)
    → ((i : ℕ) → r ≡ Some i → (j : ℕ) → i + 1 ≤ j → j < length s → get_or s j 0 ≡ c → ⊥) → (r ≡ None → (j : ℕ) → j < length s → get_or s j 0 ≡ c → ⊥)
    → r ≡ below (length s) (Some (last_place c s))
last_found c s (Some i) within here after none =
    let none_after : last_place c (drop (suc i) s) ≡ length (drop (suc i) s)
    = last_none c (drop (suc i) s) (λ j l e. after i refl (suc i + j) (omega arith) (omega (arith, length-drop (suc i) s)) (sym (get_or-drop (suc i) s j 0) ∙ e)) in
    let z : i ≡ last_place c s = last_at c s i (within i refl) (here i refl) none_after in
    simp (lt-ltb (last_place c s) (length s) (omega (arith, within i refl))) (ap Some z)
last_found c s None within here after none =
    simp (le-ltb (last_place c s) (length s) (omega (arith, last_none c s (none refl))))

-- the prefix around it
module _ (s : List ℕ) (p : Option ℕ) (hp : p ≡ below (length s) (Some (last_place 47 s))) where
  pub prefix_bare : p ≡ None → None ≡ prefix s
  unfolding prefix
  prefix_bare e = go (ltb (last_place 47 s) (length s)) (sym e ∙ hp)
    where
      go : (t : Bool) → None ≡ cond t (Some (last_place 47 s)) None → None ≡ cond t (prefix_of (address (take (last_place 47 s) s)) (drop (last_place 47 s + 1) s)) None
      go true f = let z : ◌≡◌ {A = ℕ} 0 1 = cc in absurd (omega arith)
      go false f = refl

  module _ (k : ℕ) (here : p ≡ Some k) where
    slash_there : (k ≡ last_place 47 s) × (last_place 47 s < length s)
    slash_there = go (ltb (last_place 47 s) (length s)) refl (sym here ∙ hp)
      where
        go : (t : Bool) → ltb (last_place 47 s) (length s) ≡ t → Some k ≡ cond t (Some (last_place 47 s)) None → (k ≡ last_place 47 s) × (last_place 47 s < length s)
        go true e f = (cc, ltb-true (last_place 47 s) (length s) e)
        go false e f = let z : ◌≡◌ {A = ℕ} 0 1 = cc in absurd (omega arith)

    pub slash_within : k < length s
    slash_within = omega (arith, slash_there.0, slash_there.1)

  module _ (k : ℕ) (here : p ≡ Some k) (x : Option IpAddr) (hx : x ≡ address (take k s)) where
    hk : k ≡ last_place 47 s
    hk = (slash_there k here).0

    split : prefix s ≡ prefix_of (address (take k s)) (drop (k + 1) s)
    unfolding prefix
    split = rw hk (simp (lt-ltb (last_place 47 s) (length s) (slash_there k here).1))

    pub prefix_no_address : x ≡ None → None ≡ prefix s
    prefix_no_address e = rw split (go (address (take k s)) (sym e ∙ hx))
      where
        go : (m : Option IpAddr) → None ≡ m → None ≡ prefix_of m (drop (k + 1) s)
        go (Some a) f = let z : ◌≡◌ {A = ℕ} 0 1 = cc in absurd (omega arith)
        go None f = refl

    module _ (a : IpAddr) (ha : x ≡ Some a) (y : Option ℕ) (hy : y ≡ length_for a (take (length s - (k + 1)) (drop (k + 1) s))) where
      joined : prefix s ≡ with_length a (length_for a (take (length s - (k + 1)) (drop (k + 1) s)))
      joined = split ∙ rw (take_all (length s - (k + 1)) (drop (k + 1) s) (simp length-drop (omega (arith, slash_within k here)))) (go (address (take k s)) (sym ha ∙ hx))
        where
          go : (m : Option IpAddr) → Some a ≡ m → prefix_of m (drop (k + 1) s) ≡ with_length a (length_for a (drop (k + 1) s))
          go (Some b) f = let z : b ≡ a = cc in rw z
          go None f = let z : ◌≡◌ {A = ℕ} 0 1 = cc in absurd (omega arith)

      pub prefix_no_length : y ≡ None → None ≡ prefix s
      prefix_no_length e = rw joined (go (length_for a (take (length s - (k + 1)) (drop (k + 1) s))) (sym e ∙ hy))
        where
          go : (m : Option ℕ) → None ≡ m → None ≡ with_length a m
          go (Some n) f = let z : ◌≡◌ {A = ℕ} 0 1 = cc in absurd (omega arith)
          go None f = refl

      pub prefix_some : (n : ℕ) → y ≡ Some n → Some (record { addr = a; len = n }) ≡ prefix s
      prefix_some n e = rw joined (go (length_for a (take (length s - (k + 1)) (drop (k + 1) s))) (sym e ∙ hy))
        where
          go : (m : Option ℕ) → Some n ≡ m → Some (record { addr = a; len = n }) ≡ with_length a m
          go (Some i) f = let z : n ≡ i = cc in rw z
          go None f = let z : ◌≡◌ {A = ℕ} 0 1 = cc in absurd (omega arith)
