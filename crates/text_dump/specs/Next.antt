-- Next (01, Reader and Where a call says no).
use Rattle.std.specs.Prelude.{ℕ, ◌≡◌, cond, List, ◌++◌, length, take, drop, leb, Option, Some, None, Result, Ok, Err}
use Rattle.network.specs.declared.NetworkPrefix.{NetworkPrefix}
use Rattle.plain_reader.specs.Rules.{valid}
use Rattle.plain_reader.specs.Calls.{Answer, element, end, refused}
use Rattle.plain_reader.specs.Cursor.{Cursor, next_at}
use Rattle.text_dump.specs.State.{cursor, moved, spoilt}
use Rattle.text_dump.specs.Rules.{Route, WithAsns, rules}
use Rattle.text_dump.specs.declared.State.{State}
use Rattle.text_dump.specs.declared.NextError.{NextError}
use Rattle.elem.specs.declared.Element.{Element}
use Rattle.text_dump.specs.declared.NextError.TheVariants.{Spoilt, TooFewPlaces, Unreadable}

-- an answer with the state that it leaves
abbrev pub Step : Type 0
Step = Answer WithAsns × State

abbrev pub stepped : State → Answer WithAsns × Cursor NetworkPrefix → Step
stepped σ z = (z.0, moved σ z.1)

-- next over a part, with k AS places: 5 if the state is spoilt, and else what the plain reader
-- answers from the state's position on
unfoldable pub next : State → List ℕ → ℕ → Step
next σ t k = cond (spoilt σ (length t)) (refused 5, σ) (stepped σ (next_at (rules σ) t k (cursor σ)))

-- 01's number of a refusal
abbrev pub number : NextError → ℕ
number Spoilt = 5
number Unreadable = 6
number TooFewPlaces = 7

-- the answers' numbers and values, with the lent list as next leaves it: an element's AS numbers
-- are the first of it
abbrev pub told : (State × Result (Option Element) NextError) → List ℕ → Step
told (σ, Ok (Some e)) asns = (element (e, take e.count asns), σ)
told (σ, Ok None) asns = (end, σ)
told (σ, Err e) asns = (refused (number e), σ)

-- what next leaves in the lent list: an element's AS numbers from place 0 on and all other places
-- as they were; all of it as it was in End and in refusals
abbrev pub lent : Answer WithAsns → List ℕ → List ℕ
lent (element e) old = e.1 ++ drop (length e.1) old
lent end old = old
lent (refused n) old = old

-- r answers a step, and leaves the lent list new, which was old
abbrev pub Answers : Step → List ℕ → (State × Result (Option Element) NextError) → List ℕ → Type 0
Answers z old r new = (told r new ≡ z) × (new ≡ lent z.0 old)

-- what a route under the valid prefix p comes to, on a line that ends at j, with k AS places
abbrev pub at_route : State → ℕ → NetworkPrefix → Route → ℕ → Answer WithAsns × Cursor NetworkPrefix
at_route σ k p r j = cond (leb (length r.1) k) (element ((rules σ).yield p r), record { at = j; remembered = valid p }) (refused 7, cursor σ)
