-- The columns of a table (01, Header).
use Rattle.std.specs.Prelude.{ℕ, zero, suc, ◌-◌, Option, Some, None, Bool, true, false, cond, ◌&&◌, List, [], ◌∷◌, length, drop, eqb, ltb}
use Rattle.scan.specs.Ascii.{ascii}
use Rattle.scan.specs.Search.{equal}
use Rattle.scan.specs.Words.{words, next_word}
use Rattle.columns.specs.declared.Columns.{Columns}

-- some words begin with those of a name
unfoldable pub begins : List (List ℕ) → List (List ℕ) → Bool
begins [] ws = true
begins (n ∷ ns) [] = false
begins (n ∷ ns) (w ∷ ws) = equal w n && begins ns ws

-- the name's words stand in the line at the place i, or behind a gap there: `Next` followed by
-- `Hop` is one column
unfoldable pub words_begin : List ℕ → List ℕ → ℕ → Bool
words_begin name s i = begins (words name) (words (drop i s))

-- p, or q where p is no place
abbrev pub or_else : Option ℕ → Option ℕ → Option ℕ
or_else (Some i) q = Some i
or_else None q = q

-- the name's place at a word, where it stands there, unless it stands behind the word too
abbrev pub place_at : List ℕ → List ℕ → (ℕ → Option ℕ) → Option (ℕ × ℕ) → Option ℕ
place_at name s behind None = None
place_at name s behind (Some (a, e)) = or_else (behind e) (cond (words_begin name s a) (Some a) None)

-- the last of at most n words of the line, from the place i on, at which the name stands
unfoldable pub place_from : ℕ → List ℕ → List ℕ → ℕ → Option ℕ
place_from zero name s i = None
place_from (suc n) name s i = place_at name s (place_from n name s) (next_word s i)

-- of repeated names the last counts; a line has no more words than bytes
unfoldable pub place : List ℕ → List ℕ → Option ℕ
place name s = place_from (suc (length s)) name s 0

-- strictly rising (01, Records)
abbrev pub are_rising : Columns → Bool
are_rising c = ltb c.next_hop c.metric && ltb c.metric c.local_pref && ltb c.local_pref c.weight && ltb c.weight c.path

-- all five must be there and rise
abbrev pub rising : Columns → Option Columns
rising c = cond (are_rising c) (Some c) None

abbrev pub five : Option ℕ → Option ℕ → Option ℕ → Option ℕ → Option ℕ → Option Columns
five (Some n) (Some m) (Some l) (Some w) (Some p) = rising (record { next_hop = n; metric = m; local_pref = l; weight = w; path = p })
five (Some n) (Some m) (Some l) (Some w) None = None
five (Some n) (Some m) (Some l) None p = None
five (Some n) (Some m) None w p = None
five (Some n) None l w p = None
five None m l w p = None

unfoldable pub column_header : List ℕ → Option Columns
column_header s = five (place (ascii "Next Hop") s) (place (ascii "Metric") s) (place (ascii "LocPrf") s) (place (ascii "Weight") s) (place (ascii "Path") s)

-- all five minus 1, only if Next Hop ≥ 1 (01, Body lines)
unfoldable pub shift_left : Columns → Option Columns
shift_left c =
    cond (eqb c.next_hop 0) None
    (Some
    (record { next_hop = c.next_hop - 1; metric = c.metric - 1; local_pref = c.local_pref - 1; weight = c.weight - 1; path = c.path - 1 }))
