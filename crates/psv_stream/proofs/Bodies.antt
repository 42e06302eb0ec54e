-- The lines of the body: what each line does.
use Rattle.std.specs.Prelude.{Result, Ok, Err}
use Rattle.std.proofs.Common.{◌≡◌, ℕ, ◌-◌, ◌<◌, ◌≤◌, Bool, true, false, cond, leb, List, [], ◌∷◌, ◌++◌, length, take, drop, sym, refl, ap, ◌∙◌, arith, length-take, leb-false, leb-true}
use Rattle.scan.specs.Lines.{lines}
use Rattle.scan.proofs.LineLaws.{line_alone}
use Rattle.network.specs.declared.NetworkPrefix.{NetworkPrefix}
use Rattle.psv.specs.Line.{between_text}
use Rattle.path_text.specs.Path.{asns_of}
use Rattle.text_dump_line.specs.Line.{line_of, path_of}
use Rattle.text_dump_line.specs.declared.PrefixText.{PrefixText}
use Rattle.text_dump_line.specs.declared.RouteEntry.{RouteEntry}
use Rattle.text_dump_line.specs.declared.Line.{Line}
use Rattle.text_dump_line.specs.declared.Line.TheVariants as read
use Rattle.plain_reader.specs.Rules.{Remembered as Plain, valid, replace}
use Rattle.plain_reader.specs.Calls.{end}
use Rattle.text_dump.specs.State.{plain, moved, turned, spoilt}
use Rattle.text_dump.specs.Rules.{text_of}
use Rattle.text_dump.specs.declared.Remembered.{Remembered}
use Rattle.text_dump.specs.declared.Remembered.TheVariants as remembered
use Rattle.text_dump.specs.declared.State.{State}
use Rattle.text_dump.proofs.StateLaws.{plain_stored, moved_cursor}
use Rattle.text_dump.proofs.LineLaws.{turned_moved, spoilt_anywhere, fine_wrapped, fine_route, unreadable_line_lem, passed_line, wrapped_line, other_route, yielding_route, long_route}
use Rattle.input.specs.Input.{Fronts}
use Rattle.input.specs.declared.Front.{Front}
use Rattle.input.specs.declared.Front.TheVariants as front
use Rattle.packed.specs.Packed.{remembered_in}
use Rattle.packed.specs.declared.Packed.{Packed}
use Rattle.psv_stream.specs.Printed.{refusal_text, refuse, printed_element, answered, after, next_of}
use Rattle.psv_stream.specs.Parts.{Puts, acts, Steps, element_for, routed, PutRoute, front_of, Starts, kept_len, state_of, phase_of, step_of, Fine, Kept, BodyDoes}
use Rattle.psv_stream.specs.declared.Phase.TheVariants.{Body}
use Rattle.psv_stream.specs.declared.Ran.{Ran}
use Rattle.psv_stream.specs.Refusal.{number as number_of}
use Rattle.psv_stream.specs.declared.Refusal.{Refusal}
use Rattle.psv_stream.specs.declared.body.Cursor.{Cursor}
use Rattle.psv_stream.specs.declared.Step.{Step}
use Rattle.psv_stream.specs.declared.Step.TheVariants as step
use Rattle.psv_stream.proofs.Texts.{puts_none}
use Rattle.psv_stream.proofs.Lines.{refused_does}
use Rattle.psv_stream.proofs.Steps as steps
use Rattle.psv_stream.proofs.Runs.{new}
use Rattle.psv_stream.proofs.Routes.{none_started, text_keeps}

-- what a line does
module _ (σ : State) (b : Cursor) (start : List ℕ) (n : ℕ) (kept : Kept σ start n b) (l : List ℕ) (one : lines l ≡ l ∷ []) where
  abbrev here : State
  here = state_of σ b

  abbrev there : ℕ → Packed → ℕ → Cursor
  there j q k = record { position = j; number = after b.number; start_len = k; memory = q }

  -- what is remembered is in the state, too
  same : plain here.remembered ≡ plain (remembered_in b.memory)
  same = plain_stored (plain (remembered_in b.memory))

  fine_here : spoilt (turned here) (length l) ≡ false
  fine_here =
      spoilt_anywhere here (length l) 0
      ∙ ap (λ (z : State). spoilt z 0) (turned_moved σ (record { at = b.position; remembered = plain (remembered_in b.memory) }))
      ∙ kept.fine

  -- a line that only moves the state
  moves : (q : Packed) (k : ℕ) → next_of here l ≡ (end, moved σ (record { at = length l; remembered = plain (remembered_in q) })) → (out : List ℕ)
      → BodyDoes σ b l out out (step.Took (length l) 0 (there (length l) q k))
  moves q k f out = rw f (puts_none out, refl, omega arith)

  module _ (y : Line) (c : y ≡ line_of σ.columns l) where
    pub six : y ≡ read.Unreadable → (out new : List ℕ) (w : ℕ) → Puts (refusal_text 6 (after b.number)) out new w → BodyDoes σ b l out new (step.Stops w)
    six h out new w d = refused_does l out (acts (phase_of σ b) l) 6 (after b.number) (rw (unreadable_line_lem here l 16384 one fine_here y c h)) new w d

    pub passed : y ≡ read.Passed → (out : List ℕ) → BodyDoes σ b l out out (step.Took (length l) 0 (there (length l) b.memory b.start_len))
    passed h =
        moves b.memory b.start_len
        (passed_line here l 16384 one fine_here y c h ∙ ap (λ (m : Plain NetworkPrefix). (end, moved σ (record { at = length l; remembered = m }))) same)

    pub passed_keeps : y ≡ read.Passed → Kept σ start n (there (length l) b.memory b.start_len)
    passed_keeps h = record { fine = kept.fine; starts = kept.starts }

    module _ (p : NetworkPrefix) (h : y ≡ read.Wrapped p) (q : Packed) (v : remembered_in q ≡ remembered.Valid p) where
      pub wrapped : (out : List ℕ) → BodyDoes σ b l out out (step.Took (length l) 0 (there (length l) q 0))
      wrapped = moves q 0 (wrapped_line here l 16384 one fine_here y c p h ∙ rw v)

      pub wrapped_keeps : Kept σ start n (there (length l) q 0)
      wrapped_keeps =
          record {
            fine = rw v (fine_wrapped here (length l) fine_here l y c 0 0 p h);
            starts = none_started start n (remembered_in b.memory) b.start_len (remembered_in q) (front_of σ) kept.starts;
          }

    -- a route's line is of that line
    pub its_line : (x : PrefixText) (e : RouteEntry) → y ≡ read.Route e x → read.Route e x ≡ line_of σ.columns l
    its_line x e h = sym h ∙ c

  -- a route
  module _ (x : PrefixText) (e : RouteEntry) (c : read.Route e x ≡ line_of σ.columns l) (q : Packed) (g : plain (remembered_in q) ≡ replace (text_of x) (plain (remembered_in b.memory))) where
    abbrev m : Remembered
    m = remembered_in q

    brought : plain m ≡ replace (text_of x) (plain here.remembered)
    brought = g ∙ ap (replace (text_of x)) (sym same)

    fine_behind : Fine σ m
    fine_behind =
        ap (λ (z : Plain NetworkPrefix). spoilt (moved σ (record { at = 0; remembered = z })) 0) (sym (plain_stored (plain m)))
        ∙ fine_route here (length l) fine_here l (read.Route e x) c 0 0 x e refl m brought

    started_after : (k : ℕ) → k ≡ kept_len x b.start_len → Starts (front_of σ) start n m k
    started_after k f = rw f (text_keeps (front_of σ) start n (remembered_in b.memory) b.start_len kept.starts x m g)

    -- without a valid prefix
    module _ (o : (p : NetworkPrefix) → m ≡ remembered.Valid p → ⊥) where
      pub bare : (out : List ℕ) → BodyDoes σ b l out out (step.Took (length l) 0 (there (length l) q 0))
      bare = moves q 0 (other_route here l 16384 one fine_here (read.Route e x) c x e refl m brought o)

      pub bare_keeps : Kept σ start n (there (length l) q 0)
      bare_keeps = record { fine = fine_behind; starts = none_started start n (remembered_in b.memory) b.start_len m (front_of σ) kept.starts }

-- a route's line under a valid prefix p, with the prefix text x; q remembers p
pub record Under (σ : State) (b : Cursor) (start : List ℕ) (n : ℕ) (l : List ℕ) (x : PrefixText) (e : RouteEntry) (q : Packed) (p : NetworkPrefix) : Type 0 where
  pub kept : Kept σ start n b
  pub one : lines l ≡ l ∷ []
  pub line : read.Route e x ≡ line_of σ.columns l
  pub memory : plain (remembered_in q) ≡ replace (text_of x) (plain (remembered_in b.memory))
  pub prefix : remembered_in q ≡ remembered.Valid p

module _ {σ : State} {b : Cursor} {start : List ℕ} {n : ℕ} {l : List ℕ} {x : PrefixText} {e : RouteEntry} {q : Packed} {p : NetworkPrefix} (u : Under σ b start n l x e q p) where
  fine_after : Fine σ (remembered_in q)
  fine_after = fine_behind σ b start n u.kept l u.one x e u.line q u.memory

  pub fine_prefix : Fine σ (remembered.Valid p)
  fine_prefix = rw u.prefix at fine_after

  abbrev before_it : State
  before_it = state_of σ b

  abbrev behind : State
  behind = moved σ (record { at = length l; remembered = valid p })

  abbrev next_cursor : ℕ → Cursor
  next_cursor k = record { position = length l; number = after b.number; start_len = k; memory = q }

  under : replace (text_of x) (plain before_it.remembered) ≡ valid p
  under = sym (brought σ b start n u.kept l u.one x e u.line q u.memory) ∙ ap plain u.prefix

  not_spoilt : spoilt (turned before_it) (length l) ≡ false
  not_spoilt = fine_here σ b start n u.kept l u.one

  acts_so : acts (phase_of σ b) l ≡ routed σ p e (asns_of (path_of e l)) (after b.number) behind
  acts_so = go (leb (length (asns_of (path_of e l))) 16384) refl
    where
      go : (z : Bool) → leb (length (asns_of (path_of e l))) 16384 ≡ z
          → answered (after b.number) (next_of before_it l).0 (next_of before_it l).1
          ≡ cond z (printed_element (after b.number) behind (element_for σ p e (asns_of (path_of e l))) (asns_of (path_of e l))) (refuse 7 (after b.number))
      go true f = rw (yielding_route before_it l 16384 u.one not_spoilt (read.Route e x) u.line x e refl p under (leb-true _ 16384 f))
      go false f = rw (long_route before_it l 16384 u.one not_spoilt (read.Route e x) u.line x e refl p under (leb-false _ 16384 f))

  module _ (out new : List ℕ) (r : Result ℕ Refusal) (put : PutRoute σ p e (asns_of (path_of e l)) out new r) where
    pub route_wrote : (w k : ℕ) → r ≡ Ok w → BodyDoes σ b l out new (step.Took (length l) w (next_cursor k))
    route_wrote w k f =
        let h : PutRoute σ p e (asns_of (path_of e l)) out new (Ok w) = rw f at put in
        rw (acts_so, h.0 (after b.number) behind) (h.1, rw u.prefix, omega arith)

    pub route_refused : (z : Refusal) → r ≡ Err z → (newer : List ℕ) (w : ℕ) → Puts (refusal_text (number_of z) (after b.number)) new newer w → BodyDoes σ b l out newer (step.Stops w)
    route_refused z f newer w d =
        let h : PutRoute σ p e (asns_of (path_of e l)) out new (Err z) = rw f at put in
        refused_does l out (acts (phase_of σ b) l) (number_of z) (after b.number) (acts_so ∙ h.0 (after b.number) behind) newer w (rw h.1 at d)

  -- behind what its line begins with
  module _ (k : ℕ) (short : k ≡ kept_len x b.start_len) (start' : List ℕ) (k' : ℕ) (printed : (f : List ℕ) → Starts f start n (remembered.Valid p) k → Starts f start' n (remembered.Valid p) k') where
    started_there : Starts (front_of σ) start' n (remembered.Valid p) k'
    started_there = printed (front_of σ) (rw u.prefix at (started_after σ b start n u.kept l u.one x e u.line q u.memory k short))

    pub start_inside : k' ≤ length start'
    start_inside = started_there.inside

    pub start_size : k' ≡ length (take k' start')
    start_size = rw length-take (omega (arith, start_inside))

    pub start_is : 0 < length (take k' start') → take k' start' ≡ front_of σ ++ between_text p
    start_is h = started_there.is_start p refl (omega (arith, length-take k' start'))

    pub route_keeps : Kept σ start' n (next_cursor k')
    route_keeps = record { fine = fine_after; starts = rw u.prefix started_there }

-- the line that comes next
module _ (σ : State) (b : Cursor) (s : List ℕ) (ended : Bool) (f : Front) (known : Fronts s 0 ended f) where
  pub line_one : (e : ℕ) → f ≡ front.Line e → lines (take e s) ≡ take e s ∷ []
  line_one e g =
      let w : Fronts s 0 ended (front.Line e) = rw g at known in
      let z : e - 0 ≡ e = omega arith in
      line_alone (s ++ []) (take e s) (lines (drop e s ++ [])) (rw z at (w.3 [] (λ h. refl)))

  pub line_inside : (e : ℕ) → f ≡ front.Line e → e ≤ length s
  line_inside = steps.line_inside (phase_of σ b) s ended 0 refl f known

  pub line_size : (e : ℕ) → f ≡ front.Line e → e ≡ length (take e s)
  line_size e g = rw length-take (omega (arith, line_inside e g))

  pub starved_steps : f ≡ front.Starved → (out : List ℕ) → Steps (phase_of σ b) s ended out out (step_of σ step.Starved)
  starved_steps = steps.starved_steps (phase_of σ b) s ended 0 refl f known

  pub end_steps : f ≡ front.Nothing → (out : List ℕ) → Steps (phase_of σ b) s ended out out (step_of σ (step.Stops 0))
  end_steps g out = steps.end_steps (phase_of σ b) s ended 0 refl f known out out 0 g (puts_none out)

  pub long_steps : f ≡ front.TooLong → (out new : List ℕ) (w : ℕ) → Puts (refusal_text 13 (after b.number)) out new w
      → Steps (phase_of σ b) s ended out new (step_of σ (step.Stops w))
  long_steps g out new w d = steps.long_steps (phase_of σ b) s ended 0 refl f known out new w g d

  pub line_steps : (e : ℕ) → f ≡ front.Line e → (out new : List ℕ) (r : Step Cursor) → BodyDoes σ b (take e s) out new r
      → Steps (phase_of σ b) s ended out new (step_of σ r)
  line_steps e g out new r = steps.line_steps (phase_of σ b) s ended 0 refl f known out new (step_of σ r) e g

-- before the first line
module _ (σ : State) (number : ℕ) where
  abbrev first : Packed → Cursor
  first q = record { position = σ.position; number = number; start_len = 0; memory = q }

  pub first_phase : (q : Packed) → remembered_in q ≡ σ.remembered → phase_of σ (first q) ≡ Body σ number
  first_phase q v = rw v (ap (λ (z : State). Body z number) (moved_cursor σ))

  module _ (b : Cursor) where
    pub first_kept : remembered_in b.memory ≡ σ.remembered → b.start_len ≡ 0 → (start : List ℕ) (n : ℕ) → Fine σ σ.remembered → Starts (front_of σ) start n σ.remembered 0 → Kept σ start n b
    first_kept v z start n f g = record { fine = rw v f; starts = rw (v, z) g }

-- where it ends
pub ran : (σ : State) (b : Cursor) (m : Remembered) → m ≡ remembered_in b.memory → (τ : State) → τ ≡ moved σ (record { at = b.position; remembered = plain m }) → (c w : ℕ) (z : Bool)
    → ◌≡◌ {A = Ran} (record { phase = Body τ b.number; consumed = c; written = w; starved = z }) (record { phase = phase_of σ b; consumed = c; written = w; starved = z })
ran σ b m f τ e c w z = rw (e, f)
