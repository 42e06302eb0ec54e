-- A prefix that a line brings was read as one: what holds of every prefix that is read holds of it.
use Rattle.std.specs.Prelude.{Option, Some, None}
use Prim.Native.Nat.{ℕ}
use mathlib.Core.Path.{◌≡◌, refl}
use mathlib.Core.Bool.{Bool, true, false, cond}
use mathlib.Core.List.{List, [], ◌∷◌}
use lib.ListN.{length}
use lib.Dec.{leb}
use Rattle.utf8.specs.Utf8.{readable}
use Rattle.text.specs.White.{trim_end}
use Rattle.network.specs.Address.{read_address}
use Rattle.network.specs.Prefix.{read_prefix}
use Rattle.network.specs.declared.NetworkPrefix.{NetworkPrefix}
use Rattle.network.specs.declared.IpAddr.{IpAddr}
use Rattle.columns.specs.Columns.{shift_left}
use Rattle.columns.specs.declared.Columns.{Columns}
use Rattle.text_dump_line.specs.Line.{column, displayed, prefix_as, prefix_text, route_to, route_of, route_if, or_else, any_route, wrapped_of, line_as, line_from, line_of}
use Rattle.text_dump_line.specs.declared.PrefixText.{PrefixText}
use Rattle.text_dump_line.specs.declared.PrefixText.TheVariants.{Blank, Invalid, Valid}
use Rattle.text_dump_line.specs.declared.RouteEntry.{RouteEntry}
use Rattle.text_dump_line.specs.declared.Line.{Line}
use Rattle.text_dump_line.specs.declared.Line.TheVariants.{Unreadable, Passed, Wrapped, Route as RouteLine}

module _ (Holds : NetworkPrefix → Type 0) where
  abbrev pub BringsText : PrefixText → Type 0
  BringsText Blank = Unit {0}
  BringsText Invalid = Unit {0}
  BringsText (Valid p) = Holds p

  abbrev pub BringsLine : Line → Type 0
  BringsLine Unreadable = Unit {0}
  BringsLine Passed = Unit {0}
  BringsLine (Wrapped p) = Holds p
  BringsLine (RouteLine e x) = BringsText x

  abbrev BringsRead : Option NetworkPrefix → Type 0
  BringsRead (Some p) = Holds p
  BringsRead None = Unit {0}

  abbrev BringsRoute : Option (PrefixText × RouteEntry) → Type 0
  BringsRoute (Some (x, e)) = BringsText x
  BringsRoute None = Unit {0}

  module _ (read-holds : (s : List ℕ) (p : NetworkPrefix) → read_prefix s ≡ Some p → Holds p) where
    brings_read : (s : List ℕ) → BringsRead (read_prefix s)
    brings_read s = go (read_prefix s) refl
      where
        go : (r : Option NetworkPrefix) → read_prefix s ≡ r → BringsRead r
        go (Some p) e = read-holds s p e
        go None e = tt

    brings_text : (s : List ℕ) → BringsText (prefix_text s)
    unfolding prefix_text
    brings_text [] = tt
    brings_text (b ∷ s) = go (read_prefix (b ∷ s)) (brings_read (b ∷ s))
      where
        go : (r : Option NetworkPrefix) → BringsRead r → BringsText (prefix_as r)
        go (Some p) h = h
        go None h = tt

    brings_route : (c : Columns) (t : List ℕ) → BringsRoute (route_of c t)
    unfolding route_of
    brings_route c t = go (displayed t) (read_address (column c.next_hop c.metric t))
      where
        go : (b : Bool) (a : Option IpAddr) → BringsRoute (cond b None (route_to c t a))
        go true a = tt
        go false (Some hop) = brings_text (column 3 c.next_hop t)
        go false None = tt

    brings_any : (c : Columns) (t : List ℕ) → BringsRoute (any_route c t)
    unfolding any_route
    brings_any c t = go (route_of c t) (brings_route c t) (shift_left c)
      where
        go : (r : Option (PrefixText × RouteEntry)) → BringsRoute r → (k : Option Columns) → BringsRoute (or_else r (route_if k t))
        go (Some (x, e)) h k = h
        go None h (Some k) = brings_route k t
        go None h None = tt

    brings_wrapped : (n : ℕ) (t : List ℕ) → BringsRead (wrapped_of n t)
    unfolding wrapped_of
    brings_wrapped n t = go (leb (length t) n)
      where
        go : (b : Bool) → BringsRead (cond b (read_prefix (column 3 (length t) t)) None)
        go true = brings_read (column 3 (length t) t)
        go false = tt

    pub line_brings : (c : Columns) (s : List ℕ) → BringsLine (line_of c s)
    unfolding line_of
    line_brings c s = all (readable s)
      where
        go : (r : Option (PrefixText × RouteEntry)) → BringsRoute r → (w : Option NetworkPrefix) → BringsRead w → BringsLine (line_as r w)
        go (Some (x, e)) h w v = h
        go None h (Some p) v = v
        go None h None v = tt

        all : (b : Bool) → BringsLine (cond b (line_from c (trim_end s)) Unreadable)
        all true = go (any_route c (trim_end s)) (brings_any c (trim_end s)) (wrapped_of c.next_hop (trim_end s)) (brings_wrapped c.next_hop (trim_end s))
        all false = tt
