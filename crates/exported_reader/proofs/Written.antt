-- What opening, next and turn write spells the state that they mean: of every text, and of every state that bytes spell. Assumes nothing.
use Rattle.std.specs.Prelude.{Some}
use Prim.Native.Nat.{ℕ, ◌≤◌}
use mathlib.Core.Path.{◌≡◌, refl, sym, ap, ◌∙◌, subst}
use mathlib.Core.Bool.{Bool, true, false, not, ◌||◌, cond}
use mathlib.Core.List.{List}
use native.Mathlib.Omega.{arith}
use lib.ListN.{length}
use lib.Dec.{T, ltb}
use lib.Ieee.{Float, binary64, fits}
use borrow.Author.Tests.{le-ltb}
use Rattle.output.specs.Output.{front}
use Rattle.columns.specs.Columns.{are_rising}
use Rattle.seconds.specs.Seconds.{is_timestamp}
use Rattle.network.specs.declared.NetworkPrefix.{NetworkPrefix}
use Rattle.plain_reader.specs.Calls.{Answer, element, end, refused}
use Rattle.plain_reader.specs.Cursor.{Cursor, view, next_at}
use Rattle.plain_reader.specs.Refinement.{FitsPrefixFact}
use Rattle.plain_reader.proofs.Fits.{next_keeps}
use Rattle.text_dump.specs.State.{plain, cursor, moved, turned, valid_remembered, spoilt}
use Rattle.text_dump.specs.Open.{opened, open_of}
use Rattle.text_dump.specs.Rules.{WithAsns, rules}
use Rattle.text_dump.specs.Next.{stepped, next}
use Rattle.text_dump.specs.declared.Remembered.{Remembered}
use Rattle.text_dump.specs.declared.Remembered.TheVariants.{Nothing, Invalid, Valid}
use Rattle.text_dump.specs.declared.State.{State}
use Rattle.text_dump.proofs.StateLaws.{moved_cursor, stored_plain, position_inside}
use Rattle.little.specs.Little.{words_in}
use Rattle.codec.specs.Spelling.{FitsRemembered, Fits}
use Rattle.codec.proofs.OneSpelling.{spelled}
use Rattle.collector.specs.Bytes.{state_bytes, state_in}
use Rattle.collector.specs.Exports.{open_left, turn_left, answers_in, next_left}
use Rattle.exported_reader.proofs.Fitting.{Read, read_fits, moved_fits, opened_fits}
use Rattle.text_dump.proofs.RulesLaws.{lines_fit}
use Rattle.exported_reader.proofs.Stored.{state_back}
use Rattle.exported_reader.proofs.Same.{Regular, regular_next}

-- a state that bytes spell fits
spelled_fits : (s : List ℕ) (σ : State) → state_in s ≡ Some σ → Fits σ
unfolding state_in
spelled_fits s σ h = (spelled (words_in 16 s) σ h).1

-- opening
open_left_lem : (time : Float) (t s : List ℕ) (σ : State) → 128 ≤ length s → open_of time t ≡ opened σ → open_left t time s ≡ (0, front (state_bytes σ) s)
unfolding open_left
open_left_lem time t s σ h e = rw (le-ltb (length s) 128 h, e)

pub open_spells : (time : Float) (t s : List ℕ) (σ : State) → T (fits binary64 time) → 128 ≤ length s → open_of time t ≡ opened σ → state_in (open_left t time s).1 ≡ Some σ
open_spells time t s σ f h e = ap (λ (z : ℕ × List ℕ). state_in z.1) (open_left_lem time t s σ h e) ∙ state_back σ s (opened_fits time t σ f e) h

module _ (s : List ℕ) (room : 128 ≤ length s) (σ : State) (here : state_in s ≡ Some σ) where
  fit : Fits σ
  fit = spelled_fits s σ here

  turned_fits : Fits (turned σ)
  turned_fits = record { peer = fit.peer; asn = fit.asn; float = fit.float; timestamp = fit.timestamp; remembered = subst FitsRemembered (sym (stored_plain σ.remembered)) fit.remembered }

  turn_left_lem : turn_left s ≡ (0, front (state_bytes (turned σ)) s)
  unfolding turn_left
  turn_left_lem = rw (le-ltb (length s) 128 room, here)

  -- turn
  pub turn_spells : ((turn_left s).0 ≡ 0) × (state_in (turn_left s).1 ≡ Some (turned σ))
  turn_spells = (ap (λ (z : ℕ × List ℕ). z.0) turn_left_lem, ap (λ (z : ℕ × List ℕ). state_in z.1) turn_left_lem ∙ state_back (turned σ) s turned_fits room)

  -- next, over any part and with any lent lists, also where it refuses
  last : (a b : Bool) → (a || not b) ≡ false → b ≡ true
  last true b h = let z : ◌≡◌ {A = ℕ} 0 1 = cc in absurd (omega arith)
  last false true h = refl
  last false false h = let z : ◌≡◌ {A = ℕ} 0 1 = cc in absurd (omega arith)

  valid_there : (n : ℕ) → spoilt σ n ≡ false → valid_remembered σ.remembered ≡ true
  unfolding spoilt
  valid_there n h = last (ltb n σ.position || not (are_rising σ.columns) || not (is_timestamp σ.timestamp)) (valid_remembered σ.remembered) h

  read_there : (m : Remembered) → FitsRemembered m → valid_remembered m ≡ true → FitsPrefixFact Read (plain m)
  read_there Nothing f v = tt
  read_there Invalid f v = tt
  read_there (Valid p) f v = (f.0, v)

  -- the state that next means fits, and is the one handed in where next refuses
  abbrev Means : Answer WithAsns → State → Type 0
  Means (element x) τ = Fits τ
  Means end τ = Fits τ
  Means (refused n) τ = τ ≡ σ

  module _ (t : List ℕ) (k : ℕ) where
    means : Means (next σ t k).0 (next σ t k).1
    unfolding next
    means = go (spoilt σ (length t)) refl
      where
        z : Answer WithAsns × Cursor NetworkPrefix
        z = next_at (rules σ) t k (cursor σ)

        by_answer : (x : Answer WithAsns) (c : Cursor NetworkPrefix) → Regular σ (cursor σ) x c → FitsPrefixFact Read c.remembered → Means x (moved σ c)
        by_answer (element x) c r f = moved_fits σ fit c f
        by_answer end c r f = moved_fits σ fit c f
        by_answer (refused n) c r f = ap (moved σ) r.0 ∙ moved_cursor σ

        go : (b : Bool) → spoilt σ (length t) ≡ b → Means (cond b (refused 5, σ) (stepped σ z)).0 (cond b (refused 5, σ) (stepped σ z)).1
        go true e = refl
        go false e =
            by_answer z.0 z.1 (regular_next σ t k (cursor σ) (position_inside σ (length t) e))
            (next_keeps (rules σ) Read (lines_fit Read read_fits σ) (view t (cursor σ)) k (read_there σ.remembered fit.remembered (valid_there (length t) e)))

  pub next_spells : (t a e : List ℕ) → 176 ≤ length e → state_in (next_left s t a e).state ≡ Some (next σ t (length a)).1
  unfolding next_left
  next_spells t a e long = rw (le-ltb (length s) 128 room, le-ltb (length e) 176 long, here) (go (next σ t (length a)).0 (next σ t (length a)).1 (means t (length a)))
    where
      go : (x : Answer WithAsns) (τ : State) → Means x τ → state_in (answers_in s a e x τ).state ≡ Some τ
      go (element x) τ f = state_back τ s f room
      go end τ f = state_back τ s f room
      go (refused n) τ e = here ∙ ap Some (sym e)
