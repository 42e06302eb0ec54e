-- Demand 3 of lists of calls that run through the exported opening, next and turn.
use Rattle.std.specs.Prelude.{Option, Some, None}
use Prim.Native.Nat.{ℕ, ◌≤◌}
use mathlib.Core.Path.{◌≡◌, refl, sym, ap, ◌∙◌, subst}
use mathlib.Core.Bool.{true, cond}
use mathlib.Core.List.{List, [], ◌∷◌, ◌++◌, tail}
use lib.ListN.{length, take, drop}
use lib.Seq.{take_at}
use lib.Dec.{T, eqb}
use lib.Ieee.{Float, binary64, fits}
use borrow.Author.Tests.{le-ltb}
use Rattle.output.specs.Output.{front}
use Rattle.columns.specs.Columns.{are_rising}
use Rattle.seconds.specs.Seconds.{is_timestamp}
use Rattle.network.specs.declared.NetworkPrefix.{NetworkPrefix}
use Rattle.plain_reader.specs.Lists.{Each}
use Rattle.plain_reader.specs.Rules.{Remembered, nothing, invalid, valid}
use Rattle.plain_reader.specs.Calls.{Call, Answer, element, end, refused}
use Rattle.plain_reader.specs.Demand.{Demand3}
use Rattle.plain_reader.specs.Cursor.{Cursor, to_start, next_at}
use Rattle.plain_reader.specs.Refinement.{Sound, FitsPrefixFact, Implements, Accepts}
use Rattle.plain_reader.proofs.Demand3 as theory
use Rattle.text_dump.specs.State.{cursor, moved}
use Rattle.text_dump.specs.Rules.{WithAsns, rules}
use Rattle.text_dump.specs.Next.{Step, stepped, next}
use Rattle.text_dump.specs.declared.State.{State}
use Rattle.text_dump.proofs.StateLaws.{moved_cursor, cursor_moved}
use Rattle.text_dump.proofs.RulesLaws.{lines_fit}
use Rattle.text_dump.proofs.OpenLaws.{open_append, opened_rising, opened_time, opened_nothing}
use Rattle.text_dump.proofs.Demand3 as by_value
use Rattle.text_dump.proofs.Demand3.{Accepted}
use Rattle.codec.specs.Spelling.{Fits}
use Rattle.codec.specs.Element.{element_in}
use Rattle.little.specs.Little.{words_in}
use Rattle.collector.specs.Bytes.{state_bytes, element_bytes, state_in}
use Rattle.collector.specs.Exports.{opens_in, open_left, turns_in, turn_left, Left, answers_in, next_in, next_left}
use Rattle.exported_reader.specs.Reader.{Lent, lent_rules, answered, remembered_in, reader, opening}
use Rattle.exported_reader.proofs.Fitting.{Read, read_fits, moved_fits, opened_fits}
use Rattle.exported_reader.proofs.Stored.{state_length, state_back, state_again, element_back}
use Rattle.exported_reader.proofs.Same.{same_next, Regular, regular_next}

-- the cursor that some bytes hold
cursor_in : Option State → Cursor NetworkPrefix
cursor_in (Some τ) = cursor τ
cursor_in None = record { at = 0; remembered = nothing }

-- the prefixes that fit here fit there
valid_too : (m : Remembered NetworkPrefix) → FitsPrefixFact Read m → FitsPrefixFact by_value.Fits m
valid_too nothing h = tt
valid_too invalid h = tt
valid_too (valid p) h = h.1

abbrev told : Left → Answer WithAsns × List ℕ
told l = (answered l, l.state)

-- the state and its bytes, for the states of the reading that began with σ
module _ (σ : State) (fit : Fits σ) (rising : are_rising σ.columns ≡ true) (time : is_timestamp σ.timestamp ≡ true) where
  abbrev get : List ℕ → Cursor NetworkPrefix
  get b = cursor_in (state_in b)

  abbrev set : List ℕ → Cursor NetworkPrefix → List ℕ
  set b c = front (state_bytes (moved σ c)) b

  -- the bytes are those of the state
  abbrev Rest : List ℕ → Type 0
  Rest b = (128 ≤ length b) × (b ≡ set b (get b))

  set_spells : (b : List ℕ) (c : Cursor NetworkPrefix) → 128 ≤ length b → FitsPrefixFact Read c.remembered → state_in (set b c) ≡ Some (moved σ c)
  set_spells b c h f = state_back (moved σ c) b (moved_fits σ fit c f) h

  get_set : (b : List ℕ) (c : Cursor NetworkPrefix) → 128 ≤ length b → FitsPrefixFact Read c.remembered → get (set b c) ≡ c
  unfolding cursor_in
  get_set b c h f = ap cursor_in (set_spells b c h f) ∙ cursor_moved σ c

  rest_set : (b : List ℕ) (c : Cursor NetworkPrefix) → 128 ≤ length b → FitsPrefixFact Read c.remembered → Rest (set b c)
  rest_set b c h f = (
    rw (state_length (moved σ c) b h) h,
    sym (state_again (moved σ c) b h) ∙ ap (λ (q : Cursor NetworkPrefix). set (set b c) q) (sym (get_set b c h f)),
  )

  spells : (b : List ℕ) → Rest b → FitsPrefixFact Read (get b).remembered → state_in b ≡ Some (moved σ (get b))
  spells b r f = ap state_in r.1 ∙ set_spells b (get b) r.0 f

  -- next by value, from the state that the bytes spell
  next_value : (t : List ℕ) (k : ℕ) (c : Cursor NetworkPrefix) → Sound Read t c → next (moved σ c) t k ≡ ((next_at (rules σ) t k c).0, moved σ (next_at (rules σ) t k c).1)
  unfolding next
  next_value t k c h =
      let e = cursor_moved σ c in
      let sound : Sound by_value.Fits t (cursor (moved σ c)) = subst (λ (q : Cursor NetworkPrefix). Sound by_value.Fits t q) (sym e) (h.0, valid_too c.remembered h.1) in
      rw (by_value.not_spoilt (moved σ c) t rising time sound) (ap (λ (q : Cursor NetworkPrefix). stepped σ (next_at (rules σ) t k q)) e)

  -- what is told of an answer is the answer
  tells : (b a e : List ℕ) (x : Answer WithAsns) (c : Cursor NetworkPrefix) → 176 ≤ length e → Rest b → Regular σ (get b) x c
      → told (answers_in b a e x (moved σ c)) ≡ (x, set b c)
  tells b a e (element x) c h r g =
      let is : element_in (words_in 22 (front (element_bytes x.0) e)) ≡ x.0 = element_back x.0 e (rw g.1 fit.float) h in
      let numbers : take x.0.count (x.1 ++ drop (length x.1) a) ≡ x.1 = take_at x.1 (drop (length x.1) a) x.0.count (sym g.0) in
      ap (λ (y : WithAsns). (element y, set b c)) (rw (is, numbers))
  tells b a e end c h r g = refl
  tells b a e (refused n) c h r g = rw (g.1, g.2, g.0) (ap (λ (l : List ℕ). (refused n, l)) r.1)

  next_left_lem : (t a e b : List ℕ) → 176 ≤ length e → Rest b → Sound Read t (get b)
      → next_left b t a e ≡ answers_in b a e (next_at (rules σ) t (length a) (get b)).0 (moved σ (next_at (rules σ) t (length a) (get b)).1)
  unfolding next_left
  next_left_lem t a e b long r h =
      rw (le-ltb (length b) 128 r.0, le-ltb (length e) 176 long)
      (ap (next_in b a e t) (spells b r h.1) ∙ ap (λ (z : Step). answers_in b a e z.0 z.1) (next_value t (length a) (get b) h))

  next_is : (t : List ℕ) (k : Lent) (b : List ℕ) → Rest b → Sound Read t (get b)
      → (reader σ).next t k b ≡ ((next_at (lent_rules σ) t k (get b)).0, set b (next_at (lent_rules σ) t k (get b)).1)
  next_is t k b r h =
      let z = next_at (rules σ) t (length k.asns) (get b) in
      ap told (next_left_lem t k.asns k.element b k.long r h)
      ∙ tells b k.asns k.element z.0 z.1 k.long r (regular_next σ t (length k.asns) (get b) h.0)
      ∙ ap (λ (q : Answer WithAsns × Cursor NetworkPrefix). (q.0, set b q.1)) (sym (same_next σ t k (get b)))

  turn_left_lem : (b : List ℕ) → Rest b → FitsPrefixFact Read (get b).remembered → turn_left b ≡ (0, set b (to_start (get b)))
  unfolding turn_left
  turn_left_lem b r f =
      rw (le-ltb (length b) 128 r.0)
      (ap (turns_in b) (spells b r f) ∙ ap (λ (q : Cursor NetworkPrefix). (0, set b (to_start q))) (cursor_moved σ (get b)))

  turn_is : (p b : List ℕ) → Rest b → FitsPrefixFact Read (get b).remembered → (reader σ).turn p b ≡ set b (to_start (get b))
  turn_is p b r f = ap (λ (z : ℕ × List ℕ). cond (eqb z.0 0) z.1 []) (turn_left_lem b r f)

  implements : Implements (lent_rules σ) (reader σ)
  unfolding cursor_in
  implements = record {
    Takes = λ t. Unit {0};
    Fits = Read;
    Rest = Rest;
    get = get;
    set = set;
    get_set = λ t b c f r h. get_set b c r.0 h.1;
    rest_set = λ t b c f r h. rest_set b c r.0 h.1;
    lines_fit = lines_fit Read read_fits σ;
    next_is = λ t k b f r h. next_is t k b r h;
    turn_is = λ t p b f r h. turn_is p b r h.1;
    remembered_is = remembered_is;
  }
    where
      of_state : (o : Option State) → remembered_in o ≡ (cursor_in o).remembered
      of_state (Some τ) = refl
      of_state None = refl

      remembered_is : (b : List ℕ) → remembered_in (state_in b) ≡ (get b).remembered
      remembered_is b = of_state (state_in b)

module _ (time : Float) (float : T (fits binary64 time)) (header : List ℕ) (σ : State) (a : Accepted time header σ) (state : List ℕ) (room : 128 ≤ length state) where
  fit : Fits σ
  fit = opened_fits time header σ float a.opens

  reads : Implements (lent_rules σ) (reader σ)
  reads = implements σ fit (opened_rising time header σ a.opens) (opened_time time header σ a.opens)

  -- what opening leaves
  start : List ℕ
  start = front (state_bytes σ) state

  open_left_lem : (p : List ℕ) → open_left (header ++ p) time state ≡ (0, start)
  unfolding open_left start
  open_left_lem p = rw (le-ltb (length state) 128 room) (ap (opens_in state) (open_append time header σ a.opens p a.ends))

  opens : (p : List ℕ) → opening time state (header ++ p) ≡ Some start
  opens p = ap (λ (z : ℕ × List ℕ). cond (eqb z.0 0) (Some z.1) None) (open_left_lem p)

  starts : state_in start ≡ Some σ
  unfolding start
  starts = state_back σ state fit room

  accepts : Accepts (lent_rules σ) (reader σ) reads (opening time state) header
  unfolding reads implements start cursor_in
  accepts = record {
    start = start;
    opens = λ p f. opens p;
    starts_at = ap cursor_in starts ∙ rw (a.whole, opened_nothing time header σ a.opens);
    starts_rest = (
      rw (state_length σ state room) room,
      sym (state_again σ state room)
          ∙ ap (λ (τ : State). front (state_bytes τ) start) (sym (moved_cursor σ))
          ∙ ap (λ (c : Cursor NetworkPrefix). front (state_bytes (moved σ c)) start) (sym (ap cursor_in starts)),
    );
  }

  -- on every list of parts and every list of calls, whatever stands in what is lent
  pub demand_3 : (ps : List (List ℕ)) (cs : List (Call Lent)) → Demand3 (lent_rules σ) (reader σ) (opening time state) header ps cs
  unfolding reads implements
  demand_3 ps cs = theory.demand_3 (lent_rules σ) (reader σ) reads (opening time state) header accepts ps cs tt (any (tail ps))
    where
      any : (l : List (List ℕ)) → Each (λ (p : List ℕ). Unit {0}) l
      any [] = tt
      any (p ∷ l) = (tt, any l)
