-- The lines of a text (01, Text: a line runs through its line feed or to the text's end).
use Rattle.std.specs.Prelude.{ℕ, ◌+◌, ◌-◌, ◌≡◌, Bool, cond, not, length, take, drop, eqb}
use mathlib.Core.List.{List, [], ◌∷◌, head_d}
use Rattle.scan.specs.Lists.{onto}

abbrev pub is_feed : ℕ → Bool
is_feed b = eqb b 10

abbrev pub not_feed : ℕ → Bool
not_feed b = not (is_feed b)

-- each line through its line feed, the last perhaps without one; no bytes, no lines
unfoldable pub lines : List ℕ → List (List ℕ)
lines [] = []
lines (b ∷ s) = let l = lines s in cond (is_feed b) ((b ∷ []) ∷ l) (onto b l)

-- the end of the line that starts at i; i itself where the text has ended and no line starts
unfoldable pub line_end : List ℕ → ℕ → ℕ
line_end s i = i + length (head_d (lines (drop i s)) [])

-- the text's bytes from i up to e are a line, and the lines behind it begin at e
abbrev pub LineAt : List ℕ → ℕ → ℕ → Type 0
LineAt s i e = lines (drop i s) ≡ take (e - i) (drop i s) ∷ lines (drop e s)

-- a text that is empty or ends in a line feed
unfoldable pub Cut : List ℕ → Type 0
Cut [] = Unit {0}
Cut (b ∷ []) = b ≡ 10
Cut (b ∷ c ∷ s) = Cut (c ∷ s)

-- each text but the last is cut
unfoldable pub Cuts : List (List ℕ) → Type 0
Cuts [] = Unit {0}
Cuts (a ∷ []) = Unit {0}
Cuts (a ∷ b ∷ l) = Cut a × Cuts (b ∷ l)
