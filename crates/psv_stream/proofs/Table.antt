-- What is printed of a table of which no line is refused: the PSV lines of its elements, which are those of the joined body (demand 3).
use Rattle.std.specs.Prelude.{None}
use Rattle.std.proofs.Common.{◌≡◌, ℕ, ◌-◌, ◌≤◌, true, List, [], ◌∷◌, ◌++◌, map, length, sym, refl, ap, ◌∙◌, append-nil, arith, le-ltb, le-leb}
use mathlib.Core.List.{flatten, map-append}
use lib.Ieee.{Float}
use Rattle.scan.specs.Lines.{lines, Cut}
use Rattle.scan.proofs.LineLaws.{lines_append}
use Rattle.timestamp.specs.Dates.{infer_timestamp}
use Rattle.columns.specs.Columns.{are_rising}
use Rattle.seconds.specs.Seconds.{is_timestamp}
use Rattle.network.specs.declared.NetworkPrefix.{NetworkPrefix}
use Rattle.psv.specs.Line.{header_text}
use Rattle.network.proofs.Valid.{read_valid}
use Rattle.plain_reader.specs.Lists.{Each}
use Rattle.plain_reader.specs.Rules.{Remembered, nothing, invalid, valid, unreadable, passed, wrapped, route, replace}
use Rattle.plain_reader.specs.Rules.{Line as Plain}
use Rattle.plain_reader.specs.Calls.{Answer, end}
use Rattle.plain_reader.specs.Plain.{take_line, take_lines}
use Rattle.plain_reader.specs.Elements.{after_line, routes, under, yielded, alone, Suffices}
use Rattle.plain_reader.specs.Cursor.{view, located}
use Rattle.plain_reader.proofs.ListLaws.{flatten_append}
use Rattle.plain_reader.specs.Refinement.{FitsPrefixFact}
use Rattle.text_dump.specs.State.{plain, moved, turned, cursor}
use Rattle.text_dump.specs.Rules.{rules, WithAsns}
use Rattle.text_dump.specs.Rules.{Route as RouteData}
use Rattle.text_dump.specs.Next.{next, stepped}
use Rattle.text_dump.specs.declared.State.{State}
use Rattle.text_dump.proofs.Demand3.{Fits, not_spoilt, Accepted}
use Rattle.text_dump.proofs.StateLaws.{moved_cursor}
use Rattle.text_dump.proofs.RulesLaws.{lines_fit}
use Rattle.plain_reader.proofs.Fits.{line_keeps}
use Rattle.text_dump.proofs.OpenLaws.{opened_rising, opened_time, opened_nothing}
use Rattle.psv_stream.specs.Printed.{body, feed, dated, answered, after, on_line, printed_from, printed}
use Rattle.psv_stream.specs.Printed as P
use Rattle.psv_stream.specs.Table.{element_line, Passes, HasRoom}
use Rattle.psv_stream.proofs.Routes.{unspoilt}
use Rattle.psv_stream.proofs.Opening.{singles, not_empty, header_printed}

room_first : (a b : List WithAsns) → Each HasRoom (a ++ b) → Each HasRoom a
room_first [] b h = tt
room_first (x ∷ a) b h = (h.0, room_first a b h.1)

room_last : (a b : List WithAsns) → Each HasRoom (a ++ b) → Each HasRoom b
room_last [] b h = h
room_last (x ∷ a) b h = room_last a b h.1

module _ (σ : State) (rising : are_rising σ.columns ≡ true) (time : is_timestamp σ.timestamp ≡ true) where
  -- a state of the reading
  abbrev at : ℕ → Remembered NetworkPrefix → State
  at i m = moved σ (record { at = i; remembered = m })

  turned_at : (i : ℕ) (m : Remembered NetworkPrefix) → turned (at i m) ≡ at 0 m
  turned_at i nothing = refl
  turned_at i invalid = refl
  turned_at i (valid p) = refl

  -- what one line does, as a part by itself
  abbrev one : Plain NetworkPrefix RouteData → List ℕ → Remembered NetworkPrefix → Answer WithAsns × State
  one x l m = stepped (at 0 m) (located (rules σ) l (take_line (rules σ) (view l (cursor (at 0 m))) 16384 x m [] (λ m'. (end, record { left = []; remembered = m' }))))

  next_one : (l : List ℕ) (m : Remembered NetworkPrefix) → lines l ≡ l ∷ [] → FitsPrefixFact Fits m → next (at 0 m) l 16384 ≡ one ((rules σ).classify l) l m
  unfolding next take_lines
  next_one l nothing e h = rw (not_spoilt (at 0 nothing) l rising time (omega arith, tt), e)
  next_one l invalid e h = rw (not_spoilt (at 0 invalid) l rising time (omega arith, tt), e)
  next_one l (valid p) e h = rw (not_spoilt (at 0 (valid p)) l rising time (omega arith, h), e)

  -- what it prints
  abbrev text : Remembered NetworkPrefix → List RouteData → List ℕ
  text m rs = flatten (map element_line (under (rules σ) m rs))

  no_text : (m : Remembered NetworkPrefix) → text m [] ≡ []
  unfolding flatten
  no_text nothing = refl
  no_text invalid = refl
  no_text (valid p) = refl

  module _ (n : ℕ) (l : List ℕ) where
    abbrev Does : Plain NetworkPrefix RouteData → Remembered NetworkPrefix → Type 0
    Does x m = (j : ℕ) × (answered n (one x l m).0 (one x l m).1 ≡ (text (after_line m x) (routes x), body (at j (after_line m x)) n))

    does_route : (t m y : Remembered NetworkPrefix) (r : RouteData) → replace t m ≡ y → (rules σ).refusal 16384 r ≡ None → FitsPrefixFact Fits y
        → Each HasRoom (under (rules σ) y (r ∷ [])) → Does (route t r) m
    unfolding flatten
    does_route t m nothing r e f h room = (length l - 0, rw e)
    does_route t m invalid r e f h room = (length l - 0, rw e)
    does_route t m (valid p) r e f h room = (length l - 0, rw (e, f) (rw (unspoilt σ p r.0 r.1 time h, le-leb _ 65536 room.0) (rw append-nil)))

    does : (x : Plain NetworkPrefix RouteData) (m : Remembered NetworkPrefix) → Suffices (rules σ) 16384 x → FitsPrefixFact Fits (after_line m x)
        → Each HasRoom (under (rules σ) (after_line m x) (routes x)) → Does x m
    unfolding flatten
    does unreadable m s h room = absurd s
    does passed m s h room = (length l - 0, rw (no_text m))
    does (wrapped p) m s h room = (length l - 0, refl)
    does (route t r) m s h room = does_route t m (replace t m) r refl s h room

  -- a line of the body
  line_printed : (n i : ℕ) (m : Remembered NetworkPrefix) (l : List ℕ) → lines l ≡ l ∷ [] → Passes σ l → FitsPrefixFact Fits m
      → Each HasRoom (under (rules σ) (after_line m ((rules σ).classify l)) (routes ((rules σ).classify l)))
      → (j : ℕ) × (on_line (body (at i m) n) l ≡ (text (after_line m ((rules σ).classify l)) (routes ((rules σ).classify l)), body (at j (after_line m ((rules σ).classify l))) (after n)))
  unfolding on_line
  line_printed n i m l e p h room =
      let d = does (after n) l ((rules σ).classify l) m p.1 (line_keeps Fits m ((rules σ).classify l) (lines_fit Fits read_valid σ l) h) room in
      (d.0, rw (le-ltb 65536 (length l) p.0, turned_at i m, next_one l m e h) d.1)

  -- lines of the body
  pub body_printed : (ls : List (List ℕ)) (n i : ℕ) (m : Remembered NetworkPrefix) → Each (λ (l : List ℕ). (lines l ≡ l ∷ []) × Passes σ l) ls → FitsPrefixFact Fits m
      → Each HasRoom (yielded (rules σ) m (map (rules σ).classify ls)) → printed_from (body (at i m) n) ls ≡ flatten (map element_line (yielded (rules σ) m (map (rules σ).classify ls)))
  unfolding printed_from yielded flatten
  body_printed [] n i m p h room = refl
  body_printed (l ∷ ls) n i m p h room =
      let x = (rules σ).classify l in
      let here = under (rules σ) (after_line m x) (routes x) in
      let behind = yielded (rules σ) (after_line m x) (map (rules σ).classify ls) in
      let w = line_printed n i m l p.0.0 p.0.1 h (room_first here behind room) in
      rw (w.1, map-append element_line here behind, flatten_append (map element_line here) (map element_line behind))
      (ap (λ (t : List ℕ). text (after_line m x) (routes x) ++ t) (body_printed ls (after n) w.0 (after_line m x) p.1 (line_keeps Fits m x (lines_fit Fits read_valid σ l) h) (room_last here behind room)))

both : {A : Type 0} (Q R : A → Type 0) (l : List A) → Each Q l → Each R l → Each (λ (x : A). Q x × R x) l
both Q R [] g h = tt
both Q R (x ∷ l) g h = ((g.0, h.0), both Q R l g.1 h.1)

-- The whole input: a path line, a header that opening accepts under the path's timestamp, and a body of which no line is refused. What is printed is the PSV
-- header and the lines of the elements of the body read alone, in order.
module _ (path h b : List ℕ) (t : Float) (σ : State) (accepted : Accepted t h σ) (short : length h ≤ 65536) where
  opened_at : σ ≡ moved σ (record { at = σ.position; remembered = nothing })
  opened_at =
      sym (moved_cursor σ)
      ∙ ap (λ (m : Remembered NetworkPrefix). moved σ (record { at = σ.position; remembered = m })) (ap plain (opened_nothing t h σ accepted.opens))

  listing_printed : Each (Passes σ) (lines b) → Each HasRoom (alone (rules σ) b)
      → printed_from (P.header t 0 []) (lines h ++ lines b) ≡ header_text ++ feed ++ flatten (map element_line (alone (rules σ) b))
  unfolding flatten
  listing_printed passes room = go (lines h) refl
    where
      go : (k : List (List ℕ)) → lines h ≡ k → printed_from (P.header t 0 []) (k ++ lines b) ≡ header_text ++ feed ++ flatten (map element_line (alone (rules σ) b))
      go [] e = absurd (not_empty t h σ accepted e)
      go (x ∷ c) e =
          header_printed t h σ accepted short (lines b) c [] x e
          ∙ ap (λ (s : State). header_text ++ feed ++ printed_from (body s (length (lines h))) (lines b)) opened_at
          ∙ ap (λ (k : List ℕ). header_text ++ feed ++ k)
          (body_printed σ (opened_rising t h σ accepted.opens) (opened_time t h σ accepted.opens) (lines b) (length (lines h)) σ.position nothing
          (both (λ (l : List ℕ). lines l ≡ l ∷ []) (Passes σ) (lines b) (singles (length b) b (omega arith)) passes) tt room)

  pub table_printed : Cut path → lines path ≡ path ∷ [] → length path ≤ 65536 → dated (infer_timestamp path) ≡ ([], P.header t 0 [])
      → Each (Passes σ) (lines b) → Each HasRoom (alone (rules σ) b) → printed (path ++ (h ++ b)) ≡ header_text ++ feed ++ flatten (map element_line (alone (rules σ) b))
  unfolding printed_from on_line
  table_printed cut one fits time passes room =
      rw (lines_append path (h ++ b) cut, one, lines_append h b accepted.ends, le-ltb 65536 (length path) fits, time) (listing_printed passes room)
