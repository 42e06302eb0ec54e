-- What lines yield, line by line and part by part.
use Rattle.std.specs.Prelude.{ℕ, ◌+◌, Bool, true, false, cond, List, [], ◌∷◌, ◌++◌, map, ◌≡◌, length, None}
use Rattle.scan.specs.Lines.{lines}
use Rattle.plain_reader.specs.Rules.{Rules, Remembered, nothing, invalid, valid, Line, unreadable, passed, wrapped, route, replace}

module _ {P R : Type 0} where
  -- prefix-bearing (01's term): a route with a prefix text that is not blank, or a wrapped prefix
  abbrev pub bears_prefix : Line P R → Bool
  bears_prefix unreadable = false
  bears_prefix passed = false
  bears_prefix (wrapped p) = true
  bears_prefix (route nothing r) = false
  bears_prefix (route invalid r) = true
  bears_prefix (route (valid p) r) = true

  -- the route on a line, if it is one
  abbrev pub routes : Line P R → List R
  routes unreadable = []
  routes passed = []
  routes (wrapped p) = []
  routes (route t r) = r ∷ []

  -- what is remembered behind a line
  abbrev pub after_line : Remembered P → Line P R → Remembered P
  after_line m unreadable = m
  after_line m passed = m
  after_line m (wrapped p) = valid p
  after_line m (route t r) = replace t m

  -- what is remembered behind lines: what the last prefix-bearing one left, or what was remembered before
  unfoldable pub after : Remembered P → List (Line P R) → Remembered P
  after m [] = m
  after m (x ∷ l) = after (after_line m x) l

  -- the blank-prefix routes ahead of the first prefix-bearing line
  unfoldable pub blanks_ahead : List (Line P R) → List R
  blanks_ahead [] = []
  blanks_ahead (x ∷ l) = let b = blanks_ahead l in cond (bears_prefix x) [] (routes x ++ b)

  -- readable (01's term): UTF-8
  abbrev pub Readable : Line P R → Type 0
  Readable unreadable = ⊥
  Readable passed = Unit {0}
  Readable (wrapped p) = Unit {0}
  Readable (route t r) = Unit {0}

module _ (L : Rules) where
  -- what routes yield under what is remembered: elements if it is a valid prefix
  abbrev pub under : Remembered L.Prefix → List L.Route → List L.Element
  under nothing rs = []
  under invalid rs = []
  under (valid p) rs = map (L.yield p) rs

  -- what lines yield
  unfoldable pub yielded : Remembered L.Prefix → List (Line L.Prefix L.Route) → List L.Element
  yielded m [] = []
  yielded m (x ∷ l) = under (after_line m x) (routes x) ++ yielded (after_line m x) l

  -- part by part: the blank-prefix routes ahead under the inherited prefix, then what the part yields by itself; a part inherits what the earlier ones left
  unfoldable pub by_part : Remembered L.Prefix → List (List (Line L.Prefix L.Route)) → List (List L.Element)
  by_part m [] = []
  by_part m (l ∷ ls) = (under m (blanks_ahead l) ++ yielded nothing l) ∷ by_part (after m l) ls

  -- how many elements the parts have by what they inherit: in each part that inherits a valid prefix, the blank-prefix routes ahead
  unfoldable pub inherited : Remembered L.Prefix → List (List (Line L.Prefix L.Route)) → ℕ
  inherited m [] = 0
  inherited m (l ∷ ls) = length (under m (blanks_ahead l)) + inherited (after m l) ls

  -- the lines of a text, classified
  abbrev pub classified : List ℕ → List (Line L.Prefix L.Route)
  classified t = map L.classify (lines t)

  -- the elements of a text read alone (01, Reader): those of each reading that is opened behind the header and goes to its End, by `read_alone` of demand 3;
  -- there is such a reading where the lines are readable and the places suffice, by `can_read_alone` (proofs/Alone)
  abbrev pub alone : List ℕ → List L.Element
  alone t = yielded nothing (classified t)

  -- a readable line for which the places k suffice
  abbrev pub Suffices : L.Places → Line L.Prefix L.Route → Type 0
  Suffices k unreadable = ⊥
  Suffices k passed = Unit {0}
  Suffices k (wrapped p) = Unit {0}
  Suffices k (route t r) = L.refusal k r ≡ None
