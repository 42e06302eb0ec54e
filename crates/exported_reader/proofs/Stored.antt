-- What is written is read back: the state from its bytes, and the element from its bytes. Assumes nothing.
use Rattle.std.specs.Prelude.{Some}
use Prim.Native.Nat.{ℕ, ◌*◌, ◌≤◌}
use mathlib.Core.Path.{◌≡◌, refl, sym, ap, ◌∙◌}
use mathlib.Core.List.{List, ◌++◌}
use native.Mathlib.Omega.{arith}
use lib.ListN.{length, drop, length-append, length-drop}
use lib.Seq.{drop_at}
use lib.Dec.{T}
use lib.Ieee.{binary64, fits}
use borrow.Author.Tests.{le-leb}
use Rattle.output.specs.Output.{front}
use Rattle.elem.specs.declared.Element.{Element}
use Rattle.text_dump.specs.declared.State.{State}
use Rattle.little.specs.Little.{bytes_of, words_in}
use Rattle.little.proofs.Laws.{length_bytes_of, words_back}
use Rattle.codec.specs.Words.{state_words, element_words}
use Rattle.codec.specs.Spelling.{state_of, Fits}
use Rattle.codec.specs.Element.{element_in}
use Rattle.codec.proofs.RoundTrip.{spells, element_held}
use Rattle.collector.specs.Bytes.{state_bytes, element_bytes, state_in}

-- a text with room stands at the front
over : (w out : List ℕ) → 8 * length w ≤ length out → front (bytes_of w) out ≡ bytes_of w ++ drop (length (bytes_of w)) out
unfolding front
over w out h = rw (le-leb (length (bytes_of w)) (length out) (rw (length_bytes_of w) h))

pub state_length : (σ : State) (b : List ℕ) → 128 ≤ length b → length (front (state_bytes σ) b) ≡ length b
unfolding state_bytes state_words
state_length σ b h = ap length (over (state_words σ) b h) ∙ simp (length-append, length-drop, length_bytes_of) (omega arith)

-- what opening, next and turn write spells the state that they mean
pub state_back : (σ : State) (b : List ℕ) → Fits σ → 128 ≤ length b → state_in (front (state_bytes σ) b) ≡ Some σ
unfolding state_in state_bytes state_words
state_back σ b f h =
    ap (λ (l : List ℕ). state_of (words_in 16 l)) (over (state_words σ) b h)
    ∙ ap state_of (words_back (state_words σ) (drop (length (bytes_of (state_words σ))) b))
    ∙ spells σ f

pub element_back : (e : Element) (b : List ℕ) → T (fits binary64 e.timestamp) → 176 ≤ length b → element_in (words_in 22 (front (element_bytes e) b)) ≡ e
unfolding element_bytes element_words
element_back e b f h =
    ap (λ (l : List ℕ). element_in (words_in 22 l)) (over (element_words e) b h)
    ∙ ap element_in (words_back (element_words e) (drop (length (bytes_of (element_words e))) b))
    ∙ element_held e f

-- writing again what was written changes nothing
pub state_again : (σ : State) (b : List ℕ) → 128 ≤ length b → front (state_bytes σ) (front (state_bytes σ) b) ≡ front (state_bytes σ) b
unfolding state_bytes state_words
state_again σ b h =
    let w = state_words σ in
    let n = length (bytes_of w) in
    over w (front (bytes_of w) b) (rw (state_length σ b h) h)
    ∙ ap (λ (l : List ℕ). bytes_of w ++ drop n l) (over w b h)
    ∙ ap (λ (l : List ℕ). bytes_of w ++ l) (drop_at (bytes_of w) (drop n b) n refl)
    ∙ sym (over w b h)
