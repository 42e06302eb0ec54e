-- What is to be shown of a reader, so that it keeps demand 3.
use Rattle.std.specs.Prelude.{ℕ, ◌≤◌, ◌≡◌, List, ◌++◌, length, Option, Some}
use Rattle.plain_reader.specs.Rules.{Rules, Remembered, nothing, invalid, valid, Line, unreadable, passed, wrapped, route}
use Rattle.plain_reader.specs.Calls.{Reader}
use Rattle.plain_reader.specs.Cursor.{Cursor, after_header, to_start, next_at}

module _ {P : Type 0} (Fits : P → Type 0) where
  -- the prefix, if there is one, fits
  abbrev pub FitsPrefixFact : Remembered P → Type 0
  FitsPrefixFact nothing = Unit {0}
  FitsPrefixFact invalid = Unit {0}
  FitsPrefixFact (valid p) = Fits p

  -- the prefix that a line brings, if it brings one, fits
  abbrev pub FitsLine : {R : Type 0} → Line P R → Type 0
  FitsLine unreadable = Unit {0}
  FitsLine passed = Unit {0}
  FitsLine (wrapped p) = Fits p
  FitsLine (route t r) = FitsPrefixFact t

  -- a cursor inside the text, with a prefix that fits
  abbrev pub Sound : List ℕ → Cursor P → Type 0
  Sound t c = (c.at ≤ length t) × FitsPrefixFact c.remembered

module _ (L : Rules) where
  -- a reader whose states hold a cursor, as fields among others or as bytes
  pub record Implements (A : Reader L) : Type 1 where
    -- the texts that it takes, the prefixes that fit its states, and what is to hold of the rest of a state
    pub Takes : List ℕ → Type 0
    pub Fits : L.Prefix → Type 0
    pub Rest : A.State → Type 0
    -- the cursor that a state holds, and the state with another cursor
    pub get : A.State → Cursor L.Prefix
    pub set : A.State → Cursor L.Prefix → A.State
    pub get_set : (t : List ℕ) (s : A.State) (c : Cursor L.Prefix) → Takes t → Rest s → Sound Fits t c → get (set s c) ≡ c
    pub rest_set : (t : List ℕ) (s : A.State) (c : Cursor L.Prefix) → Takes t → Rest s → Sound Fits t c → Rest (set s c)
    -- no line brings another prefix
    pub lines_fit : (x : List ℕ) → FitsLine Fits (L.classify x)
    -- next and turn move the cursor as the reader by position does, and nothing else
    pub next_is : (t : List ℕ) (k : L.Places) (s : A.State) → Takes t → Rest s → Sound Fits t (get s) → A.next t k s ≡ ((next_at L t k (get s)).0, set s (next_at L t k (get s)).1)
    pub turn_is : (t p : List ℕ) (s : A.State) → Takes t → Rest s → Sound Fits t (get s) → A.turn p s ≡ set s (to_start (get s))
    pub remembered_is : (s : A.State) → A.remembered s ≡ (get s).remembered

  -- opening accepts the header: whatever part stands behind it, opening answers one state, with the position behind the header and nothing remembered
  pub record Accepts (A : Reader L) (I : Implements A) (opening : List ℕ → Option A.State) (header : List ℕ) : Type 0 where
    pub start : A.State
    pub opens : (p : List ℕ) → I.Takes (header ++ p) → opening (header ++ p) ≡ Some start
    pub starts_at : I.get start ≡ after_header header
    pub starts_rest : I.Rest start
