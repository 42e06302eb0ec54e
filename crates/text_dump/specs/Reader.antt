-- The calls as a reader of parts, for demand 3.
use Rattle.std.specs.Prelude.{ℕ, List, Float, Option}
use Rattle.plain_reader.specs.Calls.{Reader}
use Rattle.text_dump.specs.State.{plain, turned}
use Rattle.text_dump.specs.Open.{open_of, accepted}
use Rattle.text_dump.specs.Rules.{rules}
use Rattle.text_dump.specs.Next as Next
use Rattle.text_dump.specs.declared.State.{State}

-- next and turn, under the rules of a state that opening gave
abbrev pub reader : (σ : State) → Reader (rules σ)
reader σ = record { State = State; next = λ t k s. Next.next s t k; turn = λ p s. turned s; remembered = λ s. plain s.remembered }

-- opening
abbrev pub opening : Float → List ℕ → Option State
opening time s = accepted (open_of time s)
