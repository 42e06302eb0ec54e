-- What the path's part of a line says (01, Body lines).
use Rattle.std.specs.Prelude.{ℕ, Bool, true, false, cond, List, [], ◌∷◌, length, leb, Option, Some, None, Result, Ok, Err}
use Rattle.scan.specs.Ascii.{ascii}
use Rattle.scan.specs.Search.{equal}
use Rattle.text.specs.White.{tokens}
use Rattle.decimal.specs.Decimal.{read_u32}
use Rattle.elem.specs.declared.Origin.TheVariants.{IGP, EGP, INCOMPLETE}
use Rattle.elem.specs.declared.Origin.{Origin}
use Rattle.path_text.specs.declared.AsnsError.{AsnsError}
use Rattle.path_text.specs.declared.AsnsError.TheVariants.{TooFewPlaces}

-- the last of some tokens, else w
unfoldable pub last_or : List ℕ → List (List ℕ) → List ℕ
last_or w [] = w
last_or w (x ∷ ws) = last_or x ws

-- the last token; no bytes where there is none
unfoldable pub last_token : List ℕ → List ℕ
last_token s = last_or [] (tokens s)

-- `i`, `e` and `?` are the origins, and nothing else is
unfoldable pub letter : List ℕ → Option Origin
letter w = cond (equal w (ascii "i")) (Some IGP) (cond (equal w (ascii "e")) (Some EGP) (cond (equal w (ascii "?")) (Some INCOMPLETE) None))

-- the origin is the last token, where that is one of them
abbrev pub origin_of : List ℕ → Option Origin
origin_of s = letter (last_token s)

abbrev pub is_known : Option Origin → Bool
is_known (Some o) = true
is_known None = false

-- a last token that is an origin is taken off, and no other is
unfoldable pub take_off : List (List ℕ) → List (List ℕ)
take_off [] = []
take_off (w ∷ []) = cond (is_known (letter w)) [] (w ∷ [])
take_off (w ∷ x ∷ ws) = w ∷ take_off (x ∷ ws)

-- a number in front of others, if it is one
abbrev pub if_number : Option ℕ → List ℕ → List ℕ
if_number (Some n) l = n ∷ l
if_number None l = l

-- the tokens that read as u32, others dropped
unfoldable pub numbers : List (List ℕ) → List ℕ
numbers [] = []
numbers (w ∷ ws) = let l = numbers ws in if_number (read_u32 w) l

-- the AS numbers of a path's part
unfoldable pub asns_of : List ℕ → List ℕ
asns_of s = numbers (take_off (tokens s))

-- all of the numbers into a lent list, or a refusal
unfoldable pub put_answer : List ℕ → List ℕ → Result ℕ AsnsError
put_answer asns out = cond (leb (length asns) (length out)) (Ok (length asns)) (Err TooFewPlaces)

-- 01's number of the refusal (01, Where a call says no)
abbrev pub refusal : Result ℕ AsnsError → Option ℕ
refusal (Ok n) = None
refusal (Err TooFewPlaces) = Some 7
