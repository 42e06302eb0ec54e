-- A record without its numbers: coalesce moves none of them, so it works on kinds and lengths alone.
use Rattle.std.specs.Prelude.{ℕ, ◌+◌, List, [], ◌∷◌, map, length, ◌≡◌, eqb, Option}
use Rattle.aspath.specs.Record.{Segment}
use Rattle.aspath_normal.specs.Normal.{merge_by, scan}
use Rattle.aspath_normal.specs.Layout.{padded}
use Rattle.aspath_normal.specs.declared.Entry.{Entry}

-- an entry is a segment's kind and length
abbrev pub entry_of : ℕ → ℕ → Entry
entry_of k l = record { kind = k; length = l }

abbrev pub entry : Segment → Entry
entry x = entry_of x.kind (length x.numbers)

unfoldable pub entries : List ℕ → List ℕ → List Entry
entries [] ls = []
entries (k ∷ ks) [] = []
entries (k ∷ ks) (l ∷ ls) = entry_of k l ∷ entries ks ls

unfoldable pub merge_entries : Entry → Entry → Option Entry
merge_entries = merge_by (λ x. x.kind) (λ x. eqb x.length 0) (λ x y. entry_of x.kind (x.length + y.length))

abbrev pub coalesced_entries : List ℕ → List ℕ → List Entry
coalesced_entries ks ls = scan merge_entries (entries ks ls)

-- the kinds and lengths ks and ls were coalesced in place, to r entries
pub record Coalesced (ks ls ks' ls' : List ℕ) (r : ℕ) : Type 0 where
  pub count : r ≡ length (coalesced_entries ks ls)
  pub kinds : ks' ≡ padded (length ks) (map (λ x. x.kind) (coalesced_entries ks ls))
  pub lengths : ls' ≡ padded (length ls) (map (λ x. x.length) (coalesced_entries ks ls))
