-- A worked example: rules for a toy listing, its traces by computation, and a reader with a state of its own that gets demand 3.
use Rattle.std.specs.Prelude.{Option, Some, None}
use Prim.Native.Nat.{ℕ, ◌≤◌}
use mathlib.Core.Path.{◌≡◌, refl}
use mathlib.Core.Bool.{cond}
use mathlib.Core.List.{List, [], ◌∷◌, map, flatten, tail}
use lib.ListN.{length, get_or}
use lib.Dec.{eqb, leb}
use borrow.Author.Tests.{le-leb}
use Rattle.scan.specs.Lists.{onto}
use Rattle.scan.specs.Lines.{lines}
use Rattle.plain_reader.specs.Lists.{Each}
use Rattle.plain_reader.specs.Rules.{Rules, Remembered, nothing, invalid, valid, Line, unreadable, passed, wrapped, route}
use Rattle.plain_reader.specs.Calls.{Answer, element, end, refused, Call, next, turn, Reader, run}
use Rattle.plain_reader.specs.Plain.{take_lines, plain_trace}
use Rattle.plain_reader.specs.Elements.{after, blanks_ahead, yielded, inherited, classified, alone}
use Rattle.plain_reader.specs.Demand.{Demand3}
use Rattle.plain_reader.specs.Cursor.{Cursor, next_at}
use Rattle.plain_reader.specs.Refinement.{Implements, Accepts}
use Rattle.plain_reader.proofs.Fits.{any_line}
use Rattle.plain_reader.proofs.Demand3.{demand_3}

-- a line's first byte says what it is, and its length stands for a prefix or for a route's AS numbers:
-- 0 is unreadable, 1 a wrapped prefix, 2 a blank-prefix route, 3 a route with an invalid prefix text, 4 one with a prefix
toy : List ℕ → Line ℕ ℕ
toy s =
    let b = get_or s 0 0 in
    let n = length s in
    cond (eqb b 0) unreadable (cond (eqb b 1) (wrapped n) (cond (eqb b 2) (route nothing n) (cond (eqb b 3) (route invalid n) (cond (eqb b 4) (route (valid n) n) passed))))

-- an element: the timestamp, the prefix, the AS numbers
pub record Element : Type 0 where
  pub time : ℕ
  pub under : ℕ
  pub numbers : ℕ

-- the rules under a timestamp
abbrev rules : ℕ → Rules
rules time = record {
  Prefix = ℕ;
  Route = ℕ;
  Element = Element;
  Places = ℕ;
  classify = toy;
  yield = λ p r. record { time = time; under = p; numbers = r };
  refusal = λ k r. cond (leb r k) None (Some 7);
}

abbrev yields : ℕ → ℕ → Answer Element
yields p r = element (record { time = 5; under = p; numbers = r })

-- a wrapped prefix and a route under it
abbrev part₁ : List ℕ
part₁ = 1 ∷ 10 ∷ 2 ∷ 9 ∷ 10 ∷ []

-- a route that inherits it, one that brings an invalid prefix, and one that is left without
abbrev part₂ : List ℕ
part₂ = 2 ∷ 10 ∷ 3 ∷ 10 ∷ 2 ∷ []

-- too few places; an element; End, and a call after it; in the next part an element and End; a turn past the last part is passed over
two_parts : plain_trace (rules 5) (part₁ ∷ part₂ ∷ []) (next 2 ∷ next 3 ∷ next 0 ∷ next 0 ∷ turn ∷ next 9 ∷ next 9 ∷ turn ∷ next 9 ∷ [])
    ≡ record { here = refused 7 ∷ yields 2 3 ∷ end ∷ end ∷ []; later = (yields 2 2 ∷ end ∷ end ∷ []) ∷ []; remembered = invalid }
unfolding run take_lines lines onto toy
two_parts = refl

-- an early turn
early_turn : plain_trace (rules 5) (part₁ ∷ part₂ ∷ []) (turn ∷ next 9 ∷ []) ≡ record { here = []; later = (end ∷ []) ∷ []; remembered = invalid }
unfolding run take_lines lines onto toy
early_turn = refl

-- an unreadable line: next answers 6 again and again, and the prefix ahead of it is not kept
stuck : plain_trace (rules 5) ((4 ∷ 10 ∷ 1 ∷ 9 ∷ 9 ∷ 10 ∷ 0 ∷ []) ∷ []) (next 9 ∷ next 9 ∷ next 9 ∷ [])
    ≡ record { here = yields 2 2 ∷ refused 6 ∷ refused 6 ∷ []; later = []; remembered = valid 2 }
unfolding run take_lines lines onto toy
stuck = refl

-- no part
no_part : plain_trace (rules 5) [] (next 9 ∷ turn ∷ []) ≡ record { here = end ∷ []; later = []; remembered = nothing }
unfolding run take_lines lines
no_part = refl

-- the joined body has two elements; read alone, the parts have one and none, and the second inherits one
joined : alone (rules 5) (flatten (part₁ ∷ part₂ ∷ [])) ≡ record { time = 5; under = 2; numbers = 3 } ∷ record { time = 5; under = 2; numbers = 2 } ∷ []
unfolding yielded lines onto toy flatten
joined = refl

counts : (length (alone (rules 5) part₁) ≡ 1) × (length (alone (rules 5) part₂) ≡ 0) × (inherited (rules 5) nothing (map (classified (rules 5)) (part₁ ∷ part₂ ∷ [])) ≡ 1)
unfolding yielded inherited after blanks_ahead lines onto toy
counts = (refl, refl, refl)

-- a reader whose state holds a timestamp beside the cursor's fields, and refuses with 5 where the position is past the text
pub record State : Type 0 where
  pub time : ℕ
  pub position : ℕ
  pub prefix : Remembered ℕ

abbrev cursor : State → Cursor ℕ
cursor s = record { at = s.position; remembered = s.prefix }

abbrev moved : State → Cursor ℕ → State
moved s c = record { time = s.time; position = c.at; prefix = c.remembered }

abbrev next_toy : List ℕ → ℕ → State → Answer Element × State
next_toy t k s = let z = next_at (rules s.time) t k (cursor s) in cond (leb s.position (length t)) (z.0, moved s z.1) (refused 5, s)

abbrev reader : (time : ℕ) → Reader (rules time)
reader time = record { State = State; next = next_toy; turn = λ p s. record { time = s.time; position = 0; prefix = s.prefix }; remembered = λ s. s.prefix }

-- its header is a lone line feed
abbrev opening : ℕ → List ℕ → Option State
opening time t = cond (eqb (get_or t 0 0) 10) (Some (record { time = time; position = 1; prefix = nothing })) None

-- where the timestamp is the one opened with and the position lies in the text, next is the reading by position
next_toy_is : (time : ℕ) (t : List ℕ) (k : ℕ) (s : State) → s.time ≡ time → s.position ≤ length t
    → next_toy t k s ≡ ((next_at (rules time) t k (cursor s)).0, moved s (next_at (rules time) t k (cursor s)).1)
next_toy_is time t k s r h = rw (le-leb s.position (length t) h, r)

implements : (time : ℕ) → Implements (rules time) (reader time)
implements time = record {
  Takes = λ t. Unit {0};
  Fits = λ p. Unit {0};
  Rest = λ s. s.time ≡ time;
  get = cursor;
  set = moved;
  get_set = λ t s c f r g. refl;
  rest_set = λ t s c f r g. r;
  lines_fit = λ x. any_line (toy x);
  next_is = λ t k s f r g. next_toy_is time t k s r g.0;
  turn_is = λ t p s f r g. refl;
  remembered_is = λ s. refl;
}

accepts : (time : ℕ) → Accepts (rules time) (reader time) (implements time) (opening time) (10 ∷ [])
unfolding implements
accepts time = record { start = record { time = time; position = 1; prefix = nothing }; opens = λ p f. refl; starts_at = refl; starts_rest = refl }

-- demand 3 of the toy reader, on every timestamp, every list of parts and every list of calls
toy_demand_3 : (time : ℕ) (ps : List (List ℕ)) (cs : List (Call ℕ)) → Demand3 (rules time) (reader time) (opening time) (10 ∷ []) ps cs
unfolding implements
toy_demand_3 time ps cs = demand_3 (rules time) (reader time) (implements time) (opening time) (10 ∷ []) (accepts time) ps cs tt (any (tail ps))
  where
    any : (l : List (List ℕ)) → Each (λ (p : List ℕ). Unit {0}) l
    any [] = tt
    any (p ∷ l) = (tt, any l)
