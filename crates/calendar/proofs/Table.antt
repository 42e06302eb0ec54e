-- A table that is the list of a rule's values, which antt computes entry by entry, has the rule's value at each place. Assumes nothing.
use mathlib.Core.Path.{◌≡◌, ◌∙◌, ap}
use mathlib.Core.List.{List, [], ◌∷◌}
use Prim.Native.Nat.{ℕ, zero, suc, ◌+◌, ◌<◌}
use native.Mathlib.Omega.{arith}
use lib.ListN.{get_or}

-- f i, f (i + 1), .. : n values
unfoldable pub values : (ℕ → ℕ) → ℕ → ℕ → List ℕ
values f i zero = []
values f i (suc n) = f i ∷ values f (suc i) n

from : (f : ℕ → ℕ) (i n k : ℕ) → k < n → get_or (values f i n) k 0 ≡ f (i + k)
unfolding values
from f i zero k h = absurd (omega arith)
from f i (suc n) zero h = let z : i ≡ i + 0 = omega arith in ap f z
from f i (suc n) (suc k) h = let z : suc i + k ≡ i + suc k = omega arith in from f (suc i) n k (omega arith) ∙ ap f z

pub at : (f : ℕ → ℕ) (n k : ℕ) → k < n → get_or (values f 0 n) k 0 ≡ f k
at f n k h = let z : 0 + k ≡ k = omega arith in from f 0 n k h ∙ ap f z
