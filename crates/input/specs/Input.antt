-- Input that is read in pieces: s are the bytes at hand, and there may be more to come.
use Rattle.std.specs.Prelude.{ℕ, ◌-◌, ◌≤◌, ◌<◌, ◌≡◌, Bool, true, false, cond, ◌&&◌, List, [], ◌∷◌, ◌++◌, length, take, drop, leb}
use Rattle.scan.specs.Lines.{lines, line_end, is_feed}
use Rattle.scan.specs.Lists.{any_of}
use Rattle.input.specs.declared.Front.{Front}
use Rattle.input.specs.declared.Front.TheVariants as front

-- what may come later: nothing, where the input has ended
abbrev pub Later : Bool → List ℕ → Type 0
Later ended later = ended ≡ true → later ≡ []

-- more input is wanted: it has not ended, there is no whole line from `at` on, and what there is of
-- one is not too long yet
abbrev pub Starved : List ℕ → ℕ → Bool → Type 0
Starved s at ended = (ended ≡ false) × (any_of is_feed (drop at s) ≡ false) × (at < length s → length s ≤ 65536)

-- the line from `at` on: where it ends, whatever comes later. It is too long where it ends behind
-- 65,536 bytes (01, 13: the line, or all lines scanned
-- for the column header up to and with it).
abbrev pub Fronts : List ℕ → ℕ → Bool → Front → Type 0
Fronts s at ended (front.Line e) =
    (at < e) × (e ≤ length s) × (e ≤ 65536)
    × ((later : List ℕ) → Later ended later → lines (drop at (s ++ later)) ≡ take (e - at) (drop at s) ∷ lines (drop e s ++ later))
Fronts s at ended front.TooLong = (at < length s) × ((later : List ℕ) → 65536 < line_end (s ++ later) at)
Fronts s at ended front.Nothing = (ended ≡ true) × (length s ≤ at)
Fronts s at ended front.Starved = Starved s at ended

-- the bytes from..end moved to the front, where there are such bytes
abbrev pub is_part : ℕ → ℕ → List ℕ → Bool
is_part from end s = leb from end && leb end (length s)

unfoldable pub kept_length : ℕ → ℕ → List ℕ → ℕ
kept_length from end s = cond (is_part from end s) (end - from) 0

unfoldable pub kept : ℕ → ℕ → List ℕ → List ℕ
kept from end s = let n = kept_length from end s in take n (drop from s) ++ drop n s
