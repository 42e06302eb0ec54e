-- Character edges, and the slices between them (01, Text).
use Rattle.std.specs.Prelude.{ℕ, List, Bool, not, ◌&&◌, ◌||◌, length, get_or, leb, ltb, eqb}
use Rattle.utf8.specs.Utf8.{is_tail}

-- a character edge: the text's start, its end, or a place between where no UTF8-tail stands (std's
-- is_char_boundary)
unfoldable pub is_edge : List ℕ → ℕ → Bool
is_edge s at = eqb at 0 || eqb at (length s) || ltb at (length s) && not (is_tail (get_or s at 0))

-- a slice a..b exists only if a ≤ b ≤ length and both ends are character edges (01, Text)
abbrev pub has_slice : List ℕ → ℕ → ℕ → Bool
has_slice s a b = leb a b && leb b (length s) && is_edge s a && is_edge s b
