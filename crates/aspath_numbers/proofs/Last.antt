-- The last segment of a path, from the ends of its three lists.
use mathlib.Core.Path.{◌≡◌, refl, sym, ap, ◌∙◌}
use mathlib.Core.List.{List, [], ◌∷◌}
use mathlib.Core.Bool.{false}
use Prim.Native.Nat.{ℕ, zero, suc, ◌+◌, ◌-◌, ◌≤◌}
use native.Mathlib.Omega.{arith}
use lib.Dec.{ltb}
use lib.ListN.{length, drop, length-drop, length-map}
use lib.Seq.{take_all, drop-drop}
use Rattle.std.specs.Prelude.{Some, None, slice_get}
use Rattle.aspath.specs.Lists.{fold_map, any, sum}
use Rattle.aspath.specs.Record.{cut}
use Rattle.aspath.proofs.Parted.{first_known, others_known}
use Rattle.aspath.proofs.Record.{cut_kinds}

-- the kind and the length that stand last are those of the last segment, and it has the last numbers
module _ (k l : ℕ) where
  pub cut_last : (k0 : ℕ) (ks : List ℕ) (l0 : ℕ) (ls ns : List ℕ) → length ls ≡ length ks → sum (l0 ∷ ls) ≡ length ns
      → slice_get (k0 ∷ ks) (length ks) ≡ Some k → slice_get (l0 ∷ ls) (length ls) ≡ Some l
      → (l ≤ length ns) × (slice_get (cut (k0 ∷ ks) (l0 ∷ ls) ns) (length ks) ≡ Some (record { kind = k; numbers = drop (length ns - l) ns }))
  unfolding cut fold_map
  cut_last k0 [] l0 [] ns p s a b =
      let kk : k0 ≡ k = cc in
      let ll : l0 ≡ l = cc in
      let n : length ns - l ≡ 0 = omega (arith, s, ll) in
      (omega (arith, s, ll), rw (kk, n, take_all l0 ns (omega (arith, s))) refl)
  cut_last k0 [] l0 (l1 ∷ ls) ns p s a b = absurd (omega (arith, p))
  cut_last k0 (k1 ∷ ks) l0 [] ns p s a b = absurd (omega (arith, p))
  cut_last k0 (k1 ∷ ks) l0 (l1 ∷ ls) ns p s a b =
      let d : length (drop l0 ns) ≡ length ns - l0 = length-drop l0 ns in
      let t : sum (l1 ∷ ls) ≡ length (drop l0 ns) = omega (arith, s, d) in
      let e = cut_last k1 ks l1 ls (drop l0 ns) (omega (arith, p)) t a b in
      let n : l0 + (length (drop l0 ns) - l) ≡ length ns - l = omega (arith, d, e.0, s) in
      (omega (arith, d, e.0), e.1 ∙ rw (drop-drop (length (drop l0 ns) - l) l0 ns, n) refl)

-- and no kind of a list of known ones is over 3
pub last_known : (ks : List ℕ) (i k : ℕ) → any (ltb 3) ks ≡ false → slice_get ks i ≡ Some k → k ≤ 3
last_known [] i k known a = cc
last_known (x ∷ ks) zero k known a = let e : x ≡ k = cc in rw e at (first_known x ks known)
last_known (x ∷ ks) (suc i) k known a = last_known ks i k (others_known x ks known) a

some_last : (k : ℕ) (ks : List ℕ) → slice_get (k ∷ ks) (length ks) ≡ None → ⊥
some_last k [] a = cc
some_last k (x ∷ ks) a = some_last x ks a

cut_length : (ks ls ns : List ℕ) → length ls ≡ length ks → length (cut ks ls ns) ≡ length ks
cut_length ks ls ns p = sym (length-map (cut ks ls ns) (λ x. x.kind)) ∙ ap length (cut_kinds ks ls ns (sym p))

last_of : (ks ls ns : List ℕ) (k l : ℕ) → length ls ≡ length ks → sum ls ≡ length ns → slice_get ks (length ks - 1) ≡ Some k → slice_get ls (length ls - 1) ≡ Some l
    → (l ≤ length ns) × (slice_get (cut ks ls ns) (length (cut ks ls ns) - 1) ≡ Some (record { kind = k; numbers = drop (length ns - l) ns }))
last_of [] ls ns k l p s a b = cc
last_of (k0 ∷ ks) [] ns k l p s a b = absurd (omega (arith, p))
last_of (k0 ∷ ks) (l0 ∷ ls) ns k l p s a b =
    let n : length (k0 ∷ ks) - 1 ≡ length ks = omega arith in
    let m : length (l0 ∷ ls) - 1 ≡ length ls = omega arith in
    let i : length (cut (k0 ∷ ks) (l0 ∷ ls) ns) - 1 ≡ length ks = omega (arith, cut_length (k0 ∷ ks) (l0 ∷ ls) ns p) in
    let e = cut_last k l k0 ks l0 ls ns (omega (arith, p)) s (sym (ap (slice_get (k0 ∷ ks)) n) ∙ a) (sym (ap (slice_get (l0 ∷ ls)) m) ∙ b) in
    (e.0, ap (slice_get (cut (k0 ∷ ks) (l0 ∷ ls) ns)) i ∙ e.1)

-- no segment of no kinds
pub none_last : (ks ls ns : List ℕ) → slice_get ks (length ks - 1) ≡ None → None ≡ slice_get (cut ks ls ns) (length (cut ks ls ns) - 1)
unfolding cut
none_last [] ls ns a = refl
none_last (k ∷ ks) ls ns a =
    let n : length (k ∷ ks) - 1 ≡ length ks = omega arith in
    absurd (some_last k ks (sym (ap (slice_get (k ∷ ks)) n) ∙ a))

module _ (ks ls ns : List ℕ) (k l : ℕ) (paired : length ls ≡ length ks) (summed : sum ls ≡ length ns) (a : slice_get ks (length ks - 1) ≡ Some k) (b : slice_get ls (length ls - 1) ≡ Some l) where
  pub length_fits : l ≤ length ns
  length_fits = (last_of ks ls ns k l paired summed a b).0

  pub ends_last : (n : ℕ) (behind : List ℕ) → n ≡ k → behind ≡ drop (length ns - l) ns → Some (record { kind = n; numbers = behind }) ≡ slice_get (cut ks ls ns) (length (cut ks ls ns) - 1)
  ends_last n behind e f = rw (e, f) (sym (last_of ks ls ns k l paired summed a b).1)
