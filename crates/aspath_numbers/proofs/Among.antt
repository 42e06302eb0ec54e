-- The law of the question whether a number is among a path's.
use mathlib.Core.Path.{◌≡◌, sym, ap, ◌∙◌}
use mathlib.Core.List.{List}
use mathlib.Core.Bool.{Bool}
use Prim.Native.Nat.{ℕ}
use lib.ListN.{length}
use lib.Dec.{eqb}
use Rattle.std.specs.List.{list_any}
use Rattle.aspath.specs.Lists.{any, sum}
use Rattle.aspath.specs.Record.{cut}
use Rattle.aspath.proofs.Lists.{any_is}
use Rattle.aspath.proofs.Record.{cut_numbers}
use Rattle.aspath_numbers.specs.Numbers.{contains}

-- a number of the list is a number of some segment
pub contains_is : (ks ls ns : List ℕ) (a : ℕ) → length ls ≡ length ks → sum ls ≡ length ns → (r : Bool) → r ≡ list_any (λ x. eqb x a) ns
    → r ≡ contains a (cut ks ls ns)
contains_is ks ls ns a paired summed r e =
    e ∙ any_is (λ x. eqb x a) ns ∙ ap (any (λ x. eqb x a)) (sym (cut_numbers ks ls ns (sym paired) summed))
