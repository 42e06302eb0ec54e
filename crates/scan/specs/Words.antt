-- The words of a line (01, Text: header tokens split at space, tab, LF, FF, CR only).
use Rattle.std.specs.Prelude.{ℕ, Bool, cond, not, ◌||◌, List, length, eqb, ltb, Option, Some, None}
use Rattle.scan.specs.Lists.{tokens_by, end_while}

-- space, tab, LF, FF, CR
abbrev pub is_gap : ℕ → Bool
is_gap b = eqb b 32 || eqb b 9 || eqb b 10 || eqb b 12 || eqb b 13

abbrev pub not_gap : ℕ → Bool
not_gap b = not (is_gap b)

abbrev pub words : List ℕ → List (List ℕ)
words s = tokens_by is_gap s

-- the word that starts at i, where there is a byte left
abbrev pub word_at : List ℕ → ℕ → Option (ℕ × ℕ)
word_at s i = cond {A = Option (ℕ × ℕ)} (ltb i (length s)) (Some (i, end_while not_gap s i)) None

-- the first word from the place i on
unfoldable pub next_word : List ℕ → ℕ → Option (ℕ × ℕ)
next_word s i = word_at s (end_while is_gap s i)
