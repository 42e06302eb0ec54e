-- Lines taken one after another.
use Rattle.std.proofs.Common.{◌≡◌, ℕ, ◌+◌, ◌-◌, ◌<◌, ◌≤◌, Bool, true, false, ◌⊎◌, List, [], ◌++◌, length, take, drop, sym, refl, ap, ◌∙◌, subst, inl, inr, ⊎_elim, append_assoc, append-nil, arith, length-append, length-drop, take-append-drop, drop_of_length-le, length-take, take_all, drop-drop}
use mathlib.Core.Bool.{false≢true}
use lib.Seq.{take-append-add, drop-append-add}
use Rattle.text_dump.specs.declared.State.{State}
use Rattle.input.specs.Input.{Starved}
use Rattle.psv_stream.specs.Run.{header_bytes, Runs}
use Rattle.psv_stream.specs.Parts.{Steps, is_head, Came, Heads, Fine}
use Rattle.psv_stream.specs.declared.Phase.{Phase}
use Rattle.psv_stream.specs.declared.Phase.TheVariants.{Path, Header, Body, Stopped}
use Rattle.psv_stream.specs.declared.Ran.{Ran}
use Rattle.psv_stream.specs.declared.Step.{Step}
use Rattle.psv_stream.specs.declared.Step.TheVariants as step
use Rattle.psv_stream.proofs.Steps.{rest_stopped}

pub none_yet : (p : Phase) (s : List ℕ) (ended : Bool) (out : List ℕ) → Came p s ended out p 0 0 out
none_yet p s ended out = record { consumed = omega arith; written = omega arith; same = refl; kept = refl; prints = λ later none. refl }

-- where lines have come to, a run may end
module _ (p₀ : Phase) (s : List ℕ) (ended : Bool) (out₀ : List ℕ) (p : Phase) (c w : ℕ) (out : List ℕ) (came : Came p₀ s ended out₀ p c w out) where
  abbrev here : Bool → Ran
  here b = record { phase = p; consumed = c; written = w; starved = b }

  pub runs : (b : Bool) → (b ≡ true → Starved (drop c s) (header_bytes p) ended) → (b ≡ false → (p ≡ Stopped) ⊎ (length out₀ - w < 65537)) → Runs p₀ s ended out₀ (here b) out
  runs b input room = record { consumed = came.consumed; written = came.written; prints = came.prints; kept = came.kept; wants_input = input; wants_room = room }

  -- the next line is taken from what is left of the input, and written to what is left of the output
  abbrev pub left : List ℕ
  left = take (length s - c) (drop c s)

  abbrev pub room : List ℕ
  room = take (length out - w) (drop w out)

  pub room_length : length room ≡ length out - w
  room_length = rw (length-take, length-drop) (omega arith)

  left_is : left ≡ drop c s
  left_is = take_all (length s - c) (drop c s) (rw length-drop (omega arith))

  room_is : room ≡ drop w out
  room_is = take_all (length out - w) (drop w out) (rw length-drop (omega arith))

  module _ (part : List ℕ) where
    abbrev pub new : List ℕ
    new = take w out ++ (part ++ drop (length out - w) (drop w out))

    new_is : new ≡ take w out ++ part
    new_is = let z : drop (length out - w) (drop w out) ≡ [] = drop_of_length-le (drop w out) {i = length out - w} (rw length-drop (omega arith)) in rw z (rw append-nil)

    size : length (take w out) ≡ w
    size = rw length-take (omega (arith, came.written, came.same))

    new_take : (v : ℕ) → take (w + v) new ≡ take w out ++ take v part
    new_take v = rw new_is (rw size at (take-append-add (take w out) part v))

    new_drop : (v : ℕ) → drop (w + v) new ≡ drop v part
    new_drop v = rw new_is (rw size at (drop-append-add (take w out) part v))

    behind : (v : ℕ) → drop v (drop w out) ≡ drop (w + v) out₀
    behind v = rw came.kept (drop-drop v w out₀)

    pub same_new : length part ≡ length room → length new ≡ length out₀
    same_new h = rw new_is (rw length-append (omega (arith, size, room_length, came.written, came.same)))

    pub left_output : part ≡ room → new ≡ out
    left_output h = new_is ∙ rw (h, room_is) (take-append-drop w out)

    -- there is no room for another line
    module _ (none : (length room < 65537) × (part ≡ room)) where
      pub same_out : new ≡ out
      same_out = new_is ∙ rw (none.1, room_is) (take-append-drop w out)

      pub little_left : length out₀ - w < 65537
      little_left = omega (arith, none.0, room_length, came.same)

    module _ (r : Step Phase) (known : Steps p left ended room part r) where
      steps : Steps p (drop c s) ended (drop w out) part r
      steps = rw (left_is, room_is) at known

      -- a line after which others come
      module _ (d v : ℕ) (q : Phase) (f : r ≡ step.Took d v q) where
        took : Steps p (drop c s) ended (drop w out) part (step.Took d v q)
        took = rw f at steps

        pub inside : c + d ≤ length s
        inside = omega (arith, took.1, length-drop c s, came.consumed)

        pub within : w + v ≤ length out₀
        within = omega (arith, took.2, length-drop w out, came.written, came.same)

        pub takes : length part ≡ length room → Came p₀ s ended out₀ q (c + d) (w + v) new
        takes h =
            record {
              consumed = inside;
              written = within;
              same = same_new h;
              kept = new_drop v ∙ took.3 ∙ behind v;
              prints = λ later none. came.prints later none ∙ rw (new_take v, took.4 later none, append_assoc, drop-drop);
            }

      -- the last
      module _ (v : ℕ) (f : r ≡ step.Stops v) where
        last : Steps p (drop c s) ended (drop w out) part (step.Stops v)
        last = rw f at steps

        pub stops_within : w + v ≤ length out₀
        stops_within = omega (arith, last.0, length-drop w out, came.written, came.same)

        pub stops : length part ≡ length room → Came p₀ s ended out₀ Stopped c (w + v) new
        stops h =
            record {
              consumed = came.consumed;
              written = stops_within;
              same = same_new h;
              kept = new_drop v ∙ last.1 ∙ behind v;
              prints = λ later none. came.prints later none ∙ rw (new_take v, last.2 later none, append_assoc, rest_stopped (drop c s ++ later), rest_stopped later);
            }

      -- none
      module _ (f : r ≡ step.Starved) where
        none_taken : Steps p (drop c s) ended (drop w out) part step.Starved
        none_taken = rw f at steps

        pub starves : Came p₀ s ended out₀ p c w new
        starves =
            let same_out : new ≡ out = new_is ∙ rw none_taken.0 (take-append-drop w out) in
            rw same_out came

        pub starved : Starved (drop c s) (header_bytes p) ended
        starved = none_taken.1

    -- a run from there on
    pub then_runs : (r : Ran) → Runs p left ended room r part
        → Runs p₀ s ended out₀ (record { phase = r.phase; consumed = c + r.consumed; written = w + r.written; starved = r.starved }) new
    then_runs r told =
        let known : Runs p (drop c s) ended (drop w out) r part = rw (left_is, room_is) at told in
        record {
          consumed = omega (arith, known.consumed, length-drop c s, came.consumed);
          written = omega (arith, known.written, length-drop w out, came.written, came.same);
          prints = λ later none. came.prints later none ∙ rw (new_take r.written, known.prints later none, append_assoc, drop-drop);
          kept = new_drop r.written ∙ known.kept ∙ behind r.written;
          wants_input = λ e. subst (λ (x : List ℕ). Starved x (header_bytes r.phase) ended) (drop-drop r.consumed c s) (known.wants_input e);
          wants_room = λ e. ⊎_elim (λ f. inl f) (λ h. inr (omega (arith, h, length-drop w out, came.same))) (known.wants_room e);
        }

-- the head is what a run is, unless the body has begun
module _ (p₀ : Phase) (s : List ℕ) (ended : Bool) (out₀ : List ℕ) (h : Ran) (out : List ℕ) (known : Heads p₀ s ended out₀ h out) (b : Bool) (told : b ≡ is_head h.phase) where
  pub runs_head : b ≡ true → Runs p₀ s ended out₀ h out
  runs_head f = runs p₀ s ended out₀ h.phase h.consumed h.written out known.came h.starved known.wants_input (λ e. inr (known.wants_room e (sym told ∙ f)))

  other : (p : Phase) → is_head p ≡ false → ((σ : State) (n : ℕ) → p ≡ Body σ n → ⊥) → p ≡ Stopped
  other Path f o = absurd (false≢true (sym f))
  other (Header t n _) f o = absurd (false≢true (sym f))
  other (Body σ n) f o = absurd (o σ n refl)
  other Stopped f o = refl

  pub runs_stopped : b ≡ false → ((σ : State) (n : ℕ) → h.phase ≡ Body σ n → ⊥) → Runs p₀ s ended out₀ h out
  runs_stopped f o = runs p₀ s ended out₀ h.phase h.consumed h.written out known.came h.starved known.wants_input (λ e. inl (other h.phase (sym told ∙ f) o))

-- and else the body goes on from there
module _ (p₀ : Phase) (s : List ℕ) (ended : Bool) (out₀ : List ℕ) (h : Ran) (out : List ℕ) (known : Heads p₀ s ended out₀ h out) (σ : State) (n : ℕ) (f : h.phase ≡ Body σ n) where
  pub body_fine : (b : Bool) → b ≡ is_head h.phase → b ≡ false → Fine σ σ.remembered
  body_fine b told g = sym (ap is_head f) ∙ sym told ∙ g

  came_body : Came p₀ s ended out₀ (Body σ n) h.consumed h.written out
  came_body = subst (λ (p : Phase). Came p₀ s ended out₀ p h.consumed h.written out) f known.came

  module _ (part : List ℕ) (r : Ran) (ran : Runs (Body σ n) (take (length s - h.consumed) (drop h.consumed s)) ended (take (length out - h.written) (drop h.written out)) r part) where
    pub runs_on : Runs p₀ s ended out₀ (record { phase = r.phase; consumed = h.consumed + r.consumed; written = h.written + r.written; starved = r.starved })
        (take h.written out ++ (part ++ drop (length out - h.written) (drop h.written out)))
    runs_on = then_runs p₀ s ended out₀ (Body σ n) h.consumed h.written out came_body part r ran

    pub sum_inside : h.consumed + r.consumed ≤ length s
    sum_inside = runs_on.consumed

    pub sum_within : h.written + r.written ≤ length out₀
    sum_within = runs_on.written
