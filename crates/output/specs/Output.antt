-- Text written into a lent list of bytes, for every crate that prints.
--
-- A writer (`Writer`) is the list with a place in it. A call that is lent one writes its text from the place on as far as there is room, and
-- leaves the place behind what it wrote: `Written` of the list and the places, `Writes` (Writing.antt) of the writer before and after. In this form
-- calls in a row need no measuring and no premise, and together they write the append of their texts. The laws are in proofs/Writing.antt:
--   then                                 two calls in a row write the append
--   all_left, next_left, none_left       the same for a loop, whose invariant is `Left`
--   place, holds                         a writer of places of our own, which measures its text and holds it
--   put                                  a call that measured its text and lends a writer of its whole list
-- and in proofs/Output.antt: too_short and kept, for a call that measures its text and refuses a list that is too short.

use Rattle.std.specs.Prelude.{ℕ, ◌+◌, ◌-◌, min, ◌≡◌, List, ◌++◌, cond, length, take, drop, leb, Result, Ok, Err}
use Rattle.output.specs.declared.PutError.{PutError}
use Rattle.output.specs.declared.PutError.TheVariants.{TooShort}

-- how many bytes of the text there is room for from the place at on
unfoldable pub room : List ℕ → ℕ → List ℕ → ℕ
room out at text = min (length text) (length out - at)

-- the list with so many bytes of the text in the place of those that stood there
unfoldable pub overwrite : List ℕ → ℕ → List ℕ → List ℕ
overwrite out at text = let n = room out at text in take at out ++ take n text ++ drop (at + n) out

-- what writing the text does: the list becomes new, and the place behind what was written is r
pub record Written (text out : List ℕ) (at : ℕ) (new : List ℕ) (r : ℕ) : Type 0 where
  pub list : new ≡ overwrite out at text
  pub place : r ≡ at + room out at text

-- all of the text at the front, or a refusal with the list as it was (01, "output too short")
unfoldable pub front : List ℕ → List ℕ → List ℕ
front text out = cond (leb (length text) (length out)) (text ++ drop (length text) out) out

unfoldable pub answer : List ℕ → List ℕ → Result ℕ PutError
answer text out = cond (leb (length text) (length out)) (Ok (length text)) (Err TooShort)

-- 01's number of the answer
abbrev pub number : Result ℕ PutError → ℕ
number (Ok n) = 0
number (Err TooShort) = 9
