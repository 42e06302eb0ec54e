-- Display of a path (impl Display for AsPath).
use denote.Ref.{MutBor}
use Rattle.std.specs.Prelude.{ℕ, ◌≤◌, ◌≡◌, List, [], ◌∷◌, ◌++◌, Bool, true, false, cond, ◌||◌, length, leb, eqb, Option, Some, None, Result, Ok, Err}
use Rattle.decimal_display.specs.Printed.{decimal}
use Rattle.output.specs.Output.{front}
use Rattle.output.specs.Writing.{Writes}
use Rattle.output.specs.declared.Writer.{Writer}
use Rattle.aspath.specs.Record.{Segment}
use Rattle.aspath_display.specs.declared.DisplayError.{DisplayError}
use Rattle.aspath_display.specs.declared.DisplayError.TheVariants.{TooShort, Spoilt}

-- the byte between two texts: none before the first
abbrev pub lead : Bool → ℕ → List ℕ
lead first sep = cond first [] (sep ∷ [])

-- texts one after another, each but the first behind a separator
unfoldable pub separated : {A : Type 0} → ℕ → (A → List ℕ) → Bool → List A → List ℕ
separated sep f first [] = []
separated sep f first (x ∷ l) = lead first sep ++ f x ++ separated sep f false l

-- a call for each item that writes the item's text
abbrev pub WritesEach : {A : Type 0} → (A → MutBor Writer → Unit {0} → MutBor Writer → Type 0) → (A → List ℕ) → Type 0
WritesEach {A} post text = (x : A) (v w : MutBor Writer) → post x v tt w → Writes (text x) v.now w.now

-- a sequence has spaces between its numbers, a set commas, and braces around them
unfoldable pub segment_text : ℕ → List ℕ → List ℕ
segment_text kind numbers =
    cond (eqb kind 1 || eqb kind 3) ((123 ∷ []) ++ separated 44 decimal true numbers ++ (125 ∷ [])) (separated 32 decimal true numbers)

abbrev pub path_text : Bool → List Segment → List ℕ
path_text = separated 32 (λ x. segment_text x.kind x.numbers)

-- how long a text is, and that it is no longer than a bound
pub record Measured (text : List ℕ) (most n : ℕ) : Type 0 where
  pub is : n ≡ length text
  pub small : n ≤ most

-- the answer for so many bytes of room: 01's order, 10, then 9
abbrev pub shown_answer : Option (List Segment) → List ℕ → Result ℕ DisplayError
shown_answer None out = Err Spoilt
shown_answer (Some p) out = cond (leb (length (path_text true p)) (length out)) (Ok (length (path_text true p))) (Err TooShort)

-- the bytes afterwards: where they suffice, the text, and behind it what stood there
abbrev pub shown_bytes : Option (List Segment) → List ℕ → List ℕ
shown_bytes None out = out
shown_bytes (Some p) out = front (path_text true p) out

pub record Displayed (p : Option (List Segment)) (out : List ℕ) (r : Result ℕ DisplayError) (new : List ℕ) : Type 0 where
  pub told : r ≡ shown_answer p out
  pub left : new ≡ shown_bytes p out

-- 01's numbers of the refusals; 0 is an answer
abbrev pub shown_number : Result ℕ DisplayError → ℕ
shown_number (Ok n) = 0
shown_number (Err TooShort) = 9
shown_number (Err Spoilt) = 10
