-- Spoilt elements.
use mathlib.Core.Path.{◌≡◌}
use mathlib.Core.Bool.{Bool, true, false, not, ◌||◌}
use mathlib.Core.List.{List}
use Prim.Native.Nat.{ℕ, ◌≤◌}
use native.Mathlib.Omega.{arith}
use lib.ListN.{length}
use lib.Dec.{ltb}
use borrow.Author.Tests.{ltb-false}
use Rattle.network.specs.Prefix.{valid_prefix}
use Rattle.seconds.specs.Seconds.{is_timestamp}
use Rattle.elem.specs.Element.{spoilt}
use Rattle.elem.specs.declared.Element.{Element}

last_false : (a b c : Bool) → (a || b || c) ≡ false → c ≡ false
last_false true b c h = let z : ◌≡◌ {A = ℕ} 0 1 = cc in absurd (omega arith)
last_false false true c h = let z : ◌≡◌ {A = ℕ} 0 1 = cc in absurd (omega arith)
last_false false false c h = h

-- the AS numbers of an element that is not spoilt stand in the list
pub count_within : (e : Element) (asns : List ℕ) → spoilt e asns ≡ false → e.count ≤ length asns
unfolding spoilt
count_within e asns h =
    ltb-false (length asns) e.count (last_false (not (valid_prefix e.prefix)) (not (is_timestamp e.timestamp)) (ltb (length asns) e.count) h)
