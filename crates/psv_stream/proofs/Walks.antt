-- Lines taken by a step that is a closure.
use Rattle.std.specs.Prelude.{Option, Some, None}
use Rattle.std.specs.Fn.{Mut}
use denote.Ref.{Bor, MutBor}
use Rattle.std.proofs.Common.{◌≡◌, ℕ, ◌+◌, ◌-◌, ◌<◌, ◌≤◌, Bool, true, false, List, ◌++◌, length, take, drop, arith, refl, sym, subst, ap, inl, inr, ◌∙◌, take-append-drop, length-take, length-drop, length-append}
use Rattle.psv_stream.specs.declared.Phase.{Phase}
use Rattle.psv_stream.specs.declared.Phase.TheVariants.{Stopped}
use Rattle.psv_stream.specs.declared.Ran.{Ran}
use Rattle.input.specs.Input.{Starved}
use Rattle.psv_stream.specs.Run.{header_bytes, Runs}
use Rattle.psv_stream.specs.declared.walk.Taken.{Taken}
use Rattle.psv_stream.specs.Parts.{Steps, HeadSteps, BodySteps, phase_of, Came, Heads, is_head}
use Rattle.psv_stream.specs.declared.body.Cursor.{Cursor}
use Rattle.text_dump.specs.declared.State.{State}
use Rattle.psv_stream.proofs.Steps.{steps_wider}
use Rattle.psv_stream.proofs.Runs.{none_yet, takes, runs, same_out, left_output, little_left, starves as starves_came, starved as starved_came, stops as stops_came}
use mathlib.Core.Bool.{false≢true}
use Rattle.psv_stream.specs.Loop.{Ready, GoesOn, Walked, Before, Ended, EndsBy, NextStep, StepsAt}
use Rattle.psv_stream.specs.Loop.Walked.{none, took}
use Rattle.psv_stream.specs.declared.walk.End.{End}
use Rattle.psv_stream.specs.declared.walk.End.TheVariants as end
use Rattle.psv_stream.specs.declared.Step.{Step}
use Rattle.psv_stream.specs.declared.Step.TheVariants as step

module _ {F P : Type 0} (g : Mut F (P × (Bor (List ℕ) × (MutBor (List ℕ) × Unit {0}))) (Step P × (MutBor (List ℕ) × Unit {0}))) (size : P → ℕ) (s : List ℕ) (f₀ : F) (p₀ : P) (out₀ : List ℕ) where
  pub first_before : Ready g f₀ p₀ → Before g size s f₀ p₀ out₀ f₀ p₀ 0 0 out₀
  first_before r = record { walked = none; ready = r; inside = omega arith; within = omega arith }

  module _ (goes : GoesOn g size) (f : F) (p : P) (c w : ℕ) (o : List ℕ) (b : Before g size s f₀ p₀ out₀ f p c w o) where
    abbrev pub left : List ℕ
    left = take (length s - c) (drop c s)

    abbrev pub room : List ℕ
    room = take (length o - w) (drop w o)

    module _ (f' : F) (part : List ℕ) (r : Step P) (k : NextStep g f p left room f' part (Some r)) where
      module _ (d v : ℕ) (q : P) (e : r ≡ step.Took d v q) where
        known : NextStep g f p left room f' part (Some (step.Took d v q))
        known = rw e at k

        fell : (size p < d + size q) × (d + size q ≤ length left) × (v ≤ length (take 65537 room))
        fell = goes.falls f f' p q left (take 65537 room) known.0 d v b.ready known.1

        pub inside : c + d ≤ length s
        inside = omega (arith, fell.1, length-take (length s - c) (drop c s), length-drop c s, b.inside)

        pub within : w + v ≤ length o
        within = omega (arith, fell.2, length-take 65537 room, length-take (length o - w) (drop w o), length-drop w o, b.within)

        pub fewer : length s - (c + d + size q) < length s - (c + size p)
        fewer = omega (arith, fell.0, fell.1, length-take (length s - c) (drop c s), length-drop c s, b.inside)

        abbrev new : List ℕ
        new = take w o ++ (part ++ drop (length o - w) (drop w o))

        pub goes_on : length part ≡ length room → Before g size s f₀ p₀ out₀ f' q (c + d) (w + v) new
        goes_on h =
            record {
              walked = took b.walked known;
              ready = goes.ready f f' p q left (take 65537 room) known.0 d v b.ready known.1;
              inside = inside;
              within = rw (length-append, length-append) (omega (arith, within, h, length-take w o, length-take (length o - w) (drop w o), length-drop w o, length-drop (length o - w) (drop w o), b.within));
            }

      module _ (v : ℕ) (e : r ≡ step.Stops v) where
        stopping : NextStep g f p left room f' part (Some (step.Stops v))
        stopping = rw e at k

        pub stops_within : w + v ≤ length o
        stops_within =
            let h : v ≤ length (take 65537 room) = goes.ends f f' p left (take 65537 room) stopping.0 v b.ready stopping.1 in
            omega (arith, h, length-take 65537 room, length-take (length o - w) (drop w o), length-drop w o, b.within)

        pub stops : Ended g s f₀ p₀ out₀ (record { place = p; consumed = c; written = w + v; end = end.Stopped }) (take w o ++ (part ++ drop (length o - w) (drop w o)))
        stops = record { last = f; next = f'; o = o; part = part; w = w; walked = b.walked; output = refl; answer = Some (step.Stops v); v = v; written = refl; by = stopping; ends = (refl, refl) }

    pub full : (f' : F) (part : List ℕ) → NextStep g f p left room f' part None → (e : End) → e ≡ end.Full
        → Ended g s f₀ p₀ out₀ (record { place = p; consumed = c; written = w; end = e }) (take w o ++ (part ++ drop (length o - w) (drop w o)))
    full f' part k e h = record { last = f; next = f'; o = o; part = part; w = w; walked = b.walked; output = refl; answer = None; v = 0; written = omega arith; by = k; ends = (h, refl) }

    module _ (f' : F) (part : List ℕ) (r : Step P) (k : NextStep g f p left room f' part (Some r)) where
      pub starves : r ≡ step.Starved → Ended g s f₀ p₀ out₀ (record { place = p; consumed = c; written = w; end = end.Starved }) (take w o ++ (part ++ drop (length o - w) (drop w o)))
      starves e = record { last = f; next = f'; o = o; part = part; w = w; walked = b.walked; output = refl; answer = Some step.Starved; v = 0; written = omega arith; by = rw e at k; ends = (refl, refl) }

      pub leaves : r ≡ step.Leaves → Ended g s f₀ p₀ out₀ (record { place = p; consumed = c; written = w; end = end.Left }) (take w o ++ (part ++ drop (length o - w) (drop w o)))
      leaves e = record { last = f; next = f'; o = o; part = part; w = w; walked = b.walked; output = refl; answer = Some step.Leaves; v = 0; written = omega arith; by = rw e at k; ends = (refl, refl) }

pub ruleset walk_laws = (inside, within, stops_within)

-- what the head comes to, by why its lines end
abbrev pub HeadEnds : {P : Type 0} → Phase → List ℕ → Bool → List ℕ → Phase → Taken P → List ℕ → Type 0
HeadEnds p₀ s ended out₀ p r new =
    (r.end ≡ end.Full → Heads p₀ s ended out₀ (record { phase = p; consumed = r.consumed; written = r.written; starved = false }) new)
    × (r.end ≡ end.Left → Heads p₀ s ended out₀ (record { phase = p; consumed = r.consumed; written = r.written; starved = false }) new)
    × (r.end ≡ end.Starved → Heads p₀ s ended out₀ (record { phase = p; consumed = r.consumed; written = r.written; starved = true }) new)
    × (r.end ≡ end.Stopped → (t : Ran) → t ≡ record { phase = Stopped; consumed = r.consumed; written = r.written; starved = false } → Heads p₀ s ended out₀ t new)

-- and the body
abbrev pub BodyEnds : {P : Type 0} → Phase → List ℕ → Bool → List ℕ → Phase → Taken P → List ℕ → Type 0
BodyEnds p₀ s ended out₀ p r new =
    (r.end ≡ end.Full → (t : Ran) → t ≡ record { phase = p; consumed = r.consumed; written = r.written; starved = false } → Runs p₀ s ended out₀ t new)
    × (r.end ≡ end.Left → ⊥)
    × (r.end ≡ end.Starved → (t : Ran) → t ≡ record { phase = p; consumed = r.consumed; written = r.written; starved = true } → Runs p₀ s ended out₀ t new)
    × (r.end ≡ end.Stopped → (t : Ran) → t ≡ record { phase = Stopped; consumed = r.consumed; written = r.written; starved = false } → Runs p₀ s ended out₀ t new)

-- a step that does what Steps says, as long as I holds; π is the phase of a place
abbrev pub step_by : {P : Type 0} → (P → Phase) → Step P → Step Phase
step_by π (step.Took d v q) = step.Took d v (π q)
step_by π (step.Stops v) = step.Stops v
step_by π step.Starved = step.Starved
step_by π step.Leaves = step.Leaves

module _ {F P : Type 0} (g : Mut F (P × (Bor (List ℕ) × (MutBor (List ℕ) × Unit {0}))) (Step P × (MutBor (List ℕ) × Unit {0}))) (s : List ℕ) (f₀ : F) (p₀ : P) (out₀ : List ℕ) (r : Taken P) (new : List ℕ) (e : Ended g s f₀ p₀ out₀ r new) (ended : Bool) (π : P → Phase) (I : F → P → Type 0)
    (does : (f f' : F) (p : P) (t o o' : List ℕ) (r : Step P) → I f p → StepsAt g f p t o r f' o' → HeadSteps (π p) t ended o o' (step_by π r))
    (keeps : (f f' : F) (p q : P) (t o o' : List ℕ) (d v : ℕ) → I f p → StepsAt g f p t o (step.Took d v q) f' o' → I f' q)
    (first : I f₀ p₀) where
  -- what a step does to the room, it does to the output
  module _ (f f' : F) (p : P) (t o part : List ℕ) (i : I f p) where
    took_does : (d v : ℕ) (q : P) → NextStep g f p t o f' part (Some (step.Took d v q)) → Steps (π p) t ended o part (step.Took d v (π q))
    took_does d v q k =
        let size : length (k.0 ++ drop 65537 o) ≡ length o = ap length (sym k.2) ∙ k.3 in
        rw k.2 (steps_wider (π p) t ended o (take 65537 o) k.0 65537 refl size (step.Took d v (π q)) (does f f' p t (take 65537 o) k.0 (step.Took d v q) i k.1))

    stops_does : (v : ℕ) → NextStep g f p t o f' part (Some (step.Stops v)) → Steps (π p) t ended o part (step.Stops v)
    stops_does v k =
        let size : length (k.0 ++ drop 65537 o) ≡ length o = ap length (sym k.2) ∙ k.3 in
        rw k.2 (steps_wider (π p) t ended o (take 65537 o) k.0 65537 refl size (step.Stops v) (does f f' p t (take 65537 o) k.0 (step.Stops v) i k.1))

    starves_does : NextStep g f p t o f' part (Some step.Starved) → Steps (π p) t ended o part step.Starved
    starves_does k =
        let size : length (k.0 ++ drop 65537 o) ≡ length o = ap length (sym k.2) ∙ k.3 in
        rw k.2 (steps_wider (π p) t ended o (take 65537 o) k.0 65537 refl size step.Starved (does f f' p t (take 65537 o) k.0 step.Starved i k.1))

    leaves_does : NextStep g f p t o f' part (Some step.Leaves) → (part ≡ o) × (is_head (π p) ≡ false)
    leaves_does k =
        let h : (k.0 ≡ take 65537 o) × (is_head (π p) ≡ false) = does f f' p t (take 65537 o) k.0 step.Leaves i k.1 in
        (k.2 ∙ rw h.0 (take-append-drop 65537 o), h.1)

  came : {f : F} {p : P} {c w : ℕ} {o : List ℕ} → Walked g s f₀ p₀ out₀ f p c w o → Came (π p₀) s ended out₀ (π p) c w o × I f p
  came none = (none_yet (π p₀) s ended out₀, first)
  came (took {f} {p} {c} {w} {o} {f'} {part} {d} {v} {q} so_far k) =
      let z = came so_far in
      let left = take (length s - c) (drop c s) in
      let room = take (length o - w) (drop w o) in (
        takes (π p₀) s ended out₀ (π p) c w o z.0 part (step.Took d v (π q)) (took_does f f' p left room part z.1 d v q k) d v (π q) refl k.3,
        keeps f f' p q left (take 65537 room) k.0 d v z.1 k.1,
      )

  -- the run that it comes to
  module _ where
    abbrev so_far : Came (π p₀) s ended out₀ (π r.place) r.consumed e.w e.o × I e.last r.place
    so_far = came e.walked

    abbrev out : List ℕ
    out = take e.w e.o ++ (e.part ++ drop (length e.o - e.w) (drop e.w e.o))

    abbrev Last : Option (Step P) → Type 0
    Last a = NextStep g e.last r.place (take (length s - r.consumed) (drop r.consumed s)) (take (length e.o - e.w) (drop e.w e.o)) e.next e.part a

    -- the call after the lines taken, and what is written, by why they end
    abbrev LastBy : End → Type 0
    LastBy end.Full = Last None × (r.written ≡ e.w)
    LastBy end.Left = Last (Some step.Leaves) × (r.written ≡ e.w)
    LastBy end.Starved = Last (Some step.Starved) × (r.written ≡ e.w)
    LastBy end.Stopped = (n : ℕ) × Last (Some (step.Stops n)) × (r.written ≡ e.w + n)

    last_by : (x : End) → r.end ≡ x → LastBy x
    last_by x h = subst LastBy h (go e.answer e.by e.ends)
      where
        go : (a : Option (Step P)) → Last a → EndsBy a r.end e.v → LastBy r.end
        go None k z = subst LastBy (sym z.0) (k, omega (arith, e.written, z.1))
        go (Some step.Leaves) k z = subst LastBy (sym z.0) (k, omega (arith, e.written, z.1))
        go (Some step.Starved) k z = subst LastBy (sym z.0) (k, omega (arith, e.written, z.1))
        go (Some (step.Stops n)) k z = subst LastBy (sym z.0) (n, k, omega (arith, e.written, z.1))
        go (Some (step.Took d n q)) k z = absurd z

    -- in the head
    pub head_full : r.end ≡ end.Full → Heads (π p₀) s ended out₀ (record { phase = π r.place; consumed = r.consumed; written = r.written; starved = false }) new
    head_full f =
        let l : LastBy end.Full = last_by end.Full f in
        rw (e.output, l.1, same_out (π p₀) s ended out₀ (π r.place) r.consumed e.w e.o so_far.0 e.part l.0)
        (record { came = so_far.0; wants_input = λ h. absurd (false≢true h); wants_room = λ h i. little_left (π p₀) s ended out₀ (π r.place) r.consumed e.w e.o so_far.0 e.part l.0 })

    pub head_starves : r.end ≡ end.Starved → Heads (π p₀) s ended out₀ (record { phase = π r.place; consumed = r.consumed; written = r.written; starved = true }) new
    head_starves f =
        let l : LastBy end.Starved = last_by end.Starved f in
        let does_so = starves_does e.last e.next r.place (take (length s - r.consumed) (drop r.consumed s)) (take (length e.o - e.w) (drop e.w e.o)) e.part so_far.1 l.0 in
        rw (e.output, l.1)
        (record {
          came = starves_came (π p₀) s ended out₀ (π r.place) r.consumed e.w e.o so_far.0 e.part step.Starved does_so refl;
          wants_input = λ h. starved_came (π p₀) s ended out₀ (π r.place) r.consumed e.w e.o so_far.0 e.part step.Starved does_so refl;
          wants_room = λ h. absurd (false≢true (sym h));
        })

    stopping_came : r.end ≡ end.Stopped → Came (π p₀) s ended out₀ Stopped r.consumed r.written new
    stopping_came f =
        let l : LastBy end.Stopped = last_by end.Stopped f in
        let does_so = stops_does e.last e.next r.place (take (length s - r.consumed) (drop r.consumed s)) (take (length e.o - e.w) (drop e.w e.o)) e.part so_far.1 l.0 l.1 in
        rw (e.output, l.2)
        (stops_came (π p₀) s ended out₀ (π r.place) r.consumed e.w e.o so_far.0 e.part (step.Stops l.0) does_so l.0 refl l.1.3)

    pub head_stops : r.end ≡ end.Stopped → (t : Ran) → t ≡ record { phase = Stopped; consumed = r.consumed; written = r.written; starved = false } → Heads (π p₀) s ended out₀ t new
    head_stops f t h = rw h (record { came = stopping_came f; wants_input = λ i. absurd (false≢true i); wants_room = λ i j. absurd (false≢true j) })

    pub head_left : r.end ≡ end.Left → Heads (π p₀) s ended out₀ (record { phase = π r.place; consumed = r.consumed; written = r.written; starved = false }) new
    head_left f =
        let l : LastBy end.Left = last_by end.Left f in
        let left_so = leaves_does e.last e.next r.place (take (length s - r.consumed) (drop r.consumed s)) (take (length e.o - e.w) (drop e.w e.o)) e.part so_far.1 l.0 in
        rw (e.output, l.1, left_output (π p₀) s ended out₀ (π r.place) r.consumed e.w e.o so_far.0 e.part left_so.0)
        (record { came = so_far.0; wants_input = λ h. absurd (false≢true h); wants_room = λ h i. absurd (false≢true (sym left_so.1 ∙ i)) })

    pub head_ends : HeadEnds (π p₀) s ended out₀ (π r.place) r new
    head_ends = (head_full, head_left, head_starves, head_stops)

    -- in the body
    body_last : (b : Bool) → Came (π p₀) s ended out₀ (π r.place) r.consumed r.written new → (b ≡ true → Starved (drop r.consumed s) (header_bytes (π r.place)) ended) → (b ≡ false → length out₀ - r.written < 65537)
        → Runs (π p₀) s ended out₀ (record { phase = π r.place; consumed = r.consumed; written = r.written; starved = b }) new
    body_last b h i j = runs (π p₀) s ended out₀ (π r.place) r.consumed r.written new h b i (λ z. inr (j z))

    pub body_full : r.end ≡ end.Full → (t : Ran) → t ≡ record { phase = π r.place; consumed = r.consumed; written = r.written; starved = false } → Runs (π p₀) s ended out₀ t new
    body_full f t h =
        let l : LastBy end.Full = last_by end.Full f in
        let same : new ≡ e.o = e.output ∙ same_out (π p₀) s ended out₀ (π r.place) r.consumed e.w e.o so_far.0 e.part l.0 in
        rw h (body_last false (rw (same, l.1) so_far.0) (λ i. absurd (false≢true i)) (λ i. rw l.1 (little_left (π p₀) s ended out₀ (π r.place) r.consumed e.w e.o so_far.0 e.part l.0)))

    pub body_starves : r.end ≡ end.Starved → (t : Ran) → t ≡ record { phase = π r.place; consumed = r.consumed; written = r.written; starved = true } → Runs (π p₀) s ended out₀ t new
    body_starves f t h =
        let y = head_starves f in
        rw h (body_last true y.came y.wants_input (λ i. absurd (false≢true (sym i))))

    pub body_stops : r.end ≡ end.Stopped → (t : Ran) → t ≡ record { phase = Stopped; consumed = r.consumed; written = r.written; starved = false } → Runs (π p₀) s ended out₀ t new
    body_stops f t h = rw h (runs (π p₀) s ended out₀ Stopped r.consumed r.written new (stopping_came f) false (λ i. absurd (false≢true i)) (λ i. inl refl))

    pub never_left : ((f f' : F) (p : P) (t o o' : List ℕ) → I f p → StepsAt g f p t o step.Leaves f' o' → ⊥) → r.end ≡ end.Left → ⊥
    never_left never f =
        let k = (last_by end.Left f).0 in
        never e.last e.next r.place (take (length s - r.consumed) (drop r.consumed s)) (take 65537 (take (length e.o - e.w) (drop e.w e.o))) k.0 so_far.1 k.1

    pub body_ends : ((f f' : F) (p : P) (t o o' : List ℕ) → I f p → StepsAt g f p t o step.Leaves f' o' → ⊥) → BodyEnds (π p₀) s ended out₀ (π r.place) r new
    body_ends never = (body_full, never_left never, body_starves, body_stops)

-- in the head a place is a phase
head_same : (p : Phase) (t : List ℕ) (ended : Bool) (o o' : List ℕ) (r : Step Phase) → HeadSteps p t ended o o' r → HeadSteps p t ended o o' (step_by (λ q. q) r)
head_same p t ended o o' (step.Took d v q) h = h
head_same p t ended o o' (step.Stops v) h = h
head_same p t ended o o' step.Starved h = h
head_same p t ended o o' step.Leaves h = h

pub head_does : (p : Phase) (t₁ t : List ℕ) (e₁ ended : Bool) (o₁ o o₂ o' : List ℕ) (r : Step Phase) → HeadSteps p t₁ e₁ o₁ o₂ r → t₁ ≡ t → e₁ ≡ ended → o₁ ≡ o → o₂ ≡ o' → HeadSteps p t ended o o' (step_by (λ q. q) r)
head_does p t₁ t e₁ ended o₁ o o₂ o' r h a b c d = rw (← a, ← b, ← c, ← d) (head_same p t₁ e₁ o₁ o₂ r h)

-- in the body it is the cursor
pub body_does : (σ₁ σ : State) (b : Cursor) (t₁ t : List ℕ) (e₁ ended : Bool) (o₁ o o₂ o' : List ℕ) (r : Step Cursor) → BodySteps σ₁ b t₁ e₁ o₁ o₂ r → σ₁ ≡ σ → t₁ ≡ t → e₁ ≡ ended → o₁ ≡ o → o₂ ≡ o'
    → HeadSteps (phase_of σ b) t ended o o' (step_by (phase_of σ) r)
body_does σ₁ σ b t₁ t e₁ ended o₁ o o₂ o' (step.Took d v q) h z a e x y = rw (← z, ← a, ← e, ← x, ← y) h
body_does σ₁ σ b t₁ t e₁ ended o₁ o o₂ o' (step.Stops v) h z a e x y = rw (← z, ← a, ← e, ← x, ← y) h
body_does σ₁ σ b t₁ t e₁ ended o₁ o o₂ o' step.Starved h z a e x y = rw (← a, ← e, ← x, ← y) h
body_does σ₁ σ b t₁ t e₁ ended o₁ o o₂ o' step.Leaves h z a e x y = absurd h

pub body_stays : (σ : State) (b : Cursor) (t : List ℕ) (ended : Bool) (o o' : List ℕ) → BodySteps σ b t ended o o' step.Leaves → ⊥
body_stays σ b t ended o o' h = h
