-- Laws of a path of which the first segment is taken.
use mathlib.Core.Path.{◌≡◌, refl}
use mathlib.Core.List.{List, [], ◌∷◌}
use mathlib.Core.Bool.{false}
use Prim.Native.Nat.{ℕ, ◌+◌, ◌≤◌}
use native.Mathlib.Omega.{arith}
use lib.ListN.{length, take, drop, length-drop}
use lib.Dec.{ltb}
use borrow.Author.Tests.{ltb-false}
use Rattle.std.proofs.Common.{rules, Result, Ok, Err}
use Rattle.std.specs.Result.{IsOk}
use Rattle.aspath.specs.declared.SegmentKind.{SegmentKind}
use Rattle.aspath.specs.declared.Spoilt.{Spoilt}
use Rattle.aspath.specs.Segments.{KindOf, kind_number}
use Rattle.aspath.proofs.Record.{or_none}
use Rattle.aspath.specs.Lists.{fold_map, any, sum}
use Rattle.aspath.specs.Record.{cut}

-- of a list of known kinds
module _ (k : ℕ) (ks : List ℕ) (known : any (ltb 3) (k ∷ ks) ≡ false) where
  tests : (ltb 3 k ≡ false) × (any (ltb 3) ks ≡ false)
  unfolding fold_map
  tests = or_none (ltb 3 k) (any (ltb 3) ks) known

  pub first_known : k ≤ 3
  first_known = ltb-false 3 k tests.0

  pub others_known : any (ltb 3) ks ≡ false
  others_known = tests.1

-- of lengths that sum to the numbers
module _ (l : ℕ) (ls ns : List ℕ) (summed : sum (l ∷ ls) ≡ length ns) where
  sums : l + sum ls ≡ length ns
  unfolding fold_map
  sums = summed

  pub numbers_there : l ≤ length ns
  numbers_there = omega (arith, sums)

  pub others_summed : sum ls ≡ length (drop l ns)
  others_summed = simp length-drop (omega (arith, sums))

pub none_left : (ks ls ns : List ℕ) → length ks ≡ 0 → cut ks ls ns ≡ []
unfolding cut
none_left [] ls ns e = refl
none_left (k ∷ ks) ls ns e = absurd (omega arith)

pub kind_ok : (n : ℕ) (r : Result SegmentKind Spoilt) → KindOf n r → n ≤ 3 → IsOk r
kind_ok n (Ok kind) h e = search rules
kind_ok n (Err s) h e = absurd (omega arith)

pub parted_is : (kinds lengths numbers : List ℕ) (k l : ℕ) (ks ls front behind : List ℕ) (kind : SegmentKind) → kinds ≡ k ∷ ks → lengths ≡ l ∷ ls
    → front ≡ take l numbers → behind ≡ drop l numbers → kind_number kind ≡ k
    → cut kinds lengths numbers ≡ record { kind = kind_number kind; numbers = front } ∷ cut ks ls behind
unfolding cut
parted_is kinds lengths numbers k l ks ls front behind kind a b c d e = rw (a, b, c, d, e)
