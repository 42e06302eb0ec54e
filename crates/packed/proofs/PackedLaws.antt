-- The remembered prefix as numbers.
use Prim.Native.Nat.{ℕ, zero, suc, ◌%◌, ◌≤◌, ◌<◌}
use mathlib.Core.Path.{◌≡◌, sym}
use mathlib.Core.Bool.{cond}
use native.Mathlib.Omega.{arith}
use mir.Syntax.{w8, w32}
use mir.Val.{Fits}
use lib.Dec.{eqb}
use borrow.Author.Tests.{ne_eqb}
use Rattle.network.specs.declared.IpAddr.TheVariants.{V4, V6}
use Rattle.network.specs.declared.NetworkPrefix.{NetworkPrefix}
use Rattle.text_dump.specs.declared.Remembered.TheVariants.{Nothing, Invalid, Valid}
use Rattle.packed.specs.Packed.{prefix_in, remembered_in}
use Rattle.packed.specs.declared.Packed.{Packed}

module _ (p : NetworkPrefix) (len : Fits w8 p.len) where
  small : p.len % 256 ≡ p.len
  small = omega (arith, len.fits)

  pub kept_four : (n : ℕ) → Fits w32 n → p.addr ≡ V4 n → remembered_in (record { kind = 2; version = 4; upper = 0; lower = n; len = p.len }) ≡ Valid p
  unfolding remembered_in
  kept_four n h f = let e : n % 4294967296 ≡ n = omega (arith, h.fits) in rw (e, small, ← f)

  pub kept_six : (u l : ℕ) → p.addr ≡ V6 u l → remembered_in (record { kind = 2; version = 6; upper = u; lower = l; len = p.len }) ≡ Valid p
  unfolding remembered_in
  kept_six u l f = rw (small, ← f)

-- back
module _ (k : Packed) where
  pub back_valid : (k.kind ≡ 0 → ⊥) → (k.kind ≡ 1 → ⊥) → (p : NetworkPrefix) → p ≡ prefix_in k → Valid p ≡ remembered_in k
  unfolding remembered_in
  back_valid h g p e = rw (ne_eqb k.kind 0 h, ne_eqb k.kind 1 g, e)

  -- whether there is a prefix, as the kind tells
  pub bare_kind : k.kind < 2 → (p : NetworkPrefix) → remembered_in k ≡ Valid p → ⊥
  unfolding remembered_in
  bare_kind h = go k.kind h
    where
      go : (n : ℕ) → n < 2 → (p : NetworkPrefix) → cond (eqb n 0) Nothing (cond (eqb n 1) Invalid (Valid (prefix_in k))) ≡ Valid p → ⊥
      go zero g p e = cc
      go (suc zero) g p e = cc
      go (suc (suc n)) g p e = absurd (omega arith)

  pub valid_kind : 2 ≤ k.kind → (p : NetworkPrefix) → p ≡ prefix_in k → remembered_in k ≡ Valid p
  valid_kind h p e = sym (back_valid (λ z. omega arith) (λ z. omega arith) p e)

-- for pack_prefix
pub ruleset kept_laws = (kept_four, kept_six)
