-- The exported calls as a reader of parts, for demand 3: a state is the bytes lent for it.
use Rattle.std.specs.Prelude.{ℕ, ◌≤◌, cond, List, [], length, take, eqb, Float, Option, Some, None}
use Rattle.network.specs.declared.NetworkPrefix.{NetworkPrefix}
use Rattle.plain_reader.specs.Rules.{Rules, Remembered, nothing}
use Rattle.plain_reader.specs.Calls.{Reader, Answer, element, end, refused}
use Rattle.text_dump.specs.State.{plain}
use Rattle.text_dump.specs.Rules.{Route, WithAsns, rules}
use Rattle.text_dump.specs.declared.State.{State}
use Rattle.little.specs.Little.{words_in}
use Rattle.codec.specs.Element.{element_in}
use Rattle.collector.specs.Bytes.{state_in}
use Rattle.collector.specs.Exports.{open_left, turn_left, Left, next_left}

-- what a next is lent besides the part: the AS places and the element's bytes, with whatever stands in them
pub record Lent : Type 0 where
  pub asns : List ℕ
  pub element : List ℕ
  pub long : 176 ≤ length element

-- the rules of a reading; the plain reader looks at the number of AS places alone
abbrev pub lent_rules : State → Rules
lent_rules σ =
    record {
      Prefix = NetworkPrefix;
      Route = Route;
      Element = WithAsns;
      Places = Lent;
      classify = (rules σ).classify;
      yield = (rules σ).yield;
      refusal = λ k r. (rules σ).refusal (length k.asns) r;
    }

-- what the caller takes from next: for the number 0 the element that the bytes hold, with its AS numbers, the first of their list
abbrev pub taken : List ℕ → List ℕ → WithAsns
taken b asns = (element_in (words_in 22 b), take (element_in (words_in 22 b)).count asns)

abbrev pub answered : Left → Answer WithAsns
answered l = cond (eqb l.number 0) (element (taken l.element l.asns)) (cond (eqb l.number 255) end (refused l.number))

abbrev pub remembered_in : Option State → Remembered NetworkPrefix
remembered_in (Some τ) = plain τ.remembered
remembered_in None = nothing

-- next and turn; of a turn that refused nothing would be left
abbrev pub reader : (σ : State) → Reader (lent_rules σ)
reader σ =
    record {
      State = List ℕ;
      next = λ t k s. (answered (next_left s t k.asns k.element), (next_left s t k.asns k.element).state);
      turn = λ p s. cond (eqb (turn_left s).0 0) (turn_left s).1 [];
      remembered = λ s. remembered_in (state_in s);
    }

-- opening, with a part lent for the state
abbrev pub opening : Float → List ℕ → List ℕ → Option (List ℕ)
opening time state text = cond (eqb (open_left text time state).0 0) (Some (open_left text time state).1) None
