-- What next answers, case by case.
use Rattle.std.specs.Prelude.{Option, Some, None, Result, Ok, Err}
use Prim.Native.Nat.{ℕ, ◌-◌, ◌≤◌, ◌<◌}
use mathlib.Core.Path.{◌≡◌, refl, sym, ap, subst, ◌∙◌}
use mathlib.Core.Bool.{Bool, true, false, cond}
use mathlib.Core.List.{List, ◌++◌}
use native.Mathlib.Omega.{arith}
use lib.ListN.{length, take, drop}
use lib.Seq.{take_at}
use lib.Dec.{leb}
use Rattle.scan.specs.Lines.{line_end}
use Rattle.scan.proofs.LineLaws.{line_end_inside, line_end_after}
use Rattle.network.specs.declared.NetworkPrefix.{NetworkPrefix}
use Rattle.elem.specs.declared.Element.{Element as Elem}
use Rattle.network.specs.declared.Asn.{Asn}
use Rattle.path_text.specs.Path.{asns_of, put_answer}
use Rattle.path_text.proofs.PathLaws.{few_told, all_told, few_kept, all_laid}
use Rattle.output.specs.Output.{front}
use Rattle.text_dump_line.specs.Line.{line_of, path_of}
use Rattle.text_dump_line.specs.declared.RouteEntry.{RouteEntry}
use Rattle.text_dump_line.specs.declared.PrefixText.{PrefixText}
use Rattle.path_text.specs.declared.AsnsError.{AsnsError}
use Rattle.path_text.specs.declared.AsnsError.TheVariants.{TooFewPlaces as FewPlaces}
use Rattle.text_dump_line.specs.declared.Line.{Line}
use Rattle.text_dump_line.specs.declared.Line.TheVariants.{Unreadable as UnreadableLine, Passed, Wrapped, Route}
use Rattle.plain_reader.specs.Rules.{valid, replace}
use Rattle.plain_reader.specs.Calls.{Answer, element, end, refused}
use Rattle.plain_reader.specs.Cursor.{Cursor, next_at}
use Rattle.plain_reader.proofs.LineLoop as loop
use Rattle.plain_reader.proofs.LineLoop.{come}
use Rattle.text_dump.specs.State.{plain, cursor, moved, spoilt}
use Rattle.text_dump.specs.Rules.{WithAsns, text_of, said, origin_asn, element_of, rules}
use Rattle.text_dump.specs.Next.{Step, stepped, next, told, lent, Answers, at_route}
use Rattle.text_dump.specs.declared.Remembered.{Remembered}
use Rattle.text_dump.specs.declared.Remembered.TheVariants.{Nothing, Invalid, Valid}
use Rattle.text_dump.specs.declared.State.{State}
use Rattle.text_dump.specs.declared.NextError.{NextError}
use Rattle.elem.specs.declared.Element.{Element}
use Rattle.text_dump.specs.declared.NextError.TheVariants.{Spoilt, TooFewPlaces, Unreadable}
use Rattle.text_dump.proofs.StateLaws.{moved_cursor, cursor_moved, position_inside}

-- the loop over the lines
module _ (σ : State) (t : List ℕ) where
  -- the bytes from i up to j
  abbrev between : ℕ → ℕ → List ℕ
  between i j = take (j - i) (drop i t)

  -- with k AS places next comes to what stands there, for every k
  abbrev pub ComesTo : (ℕ → Answer WithAsns × Cursor NetworkPrefix) → Type 0
  ComesTo z = (k : ℕ) → next_at (rules σ) t k (cursor σ) ≡ z k

  -- it has come to the position i with m remembered
  abbrev pub Came : ℕ → Remembered → Type 0
  Came i m = ComesTo (λ k. come (rules σ) t (cursor σ) k i (plain m))

  pub comes : Came σ.position σ.remembered
  comes k = loop.begins (rules σ) t (cursor σ) k

  module _ (i : ℕ) (m : Remembered) (came : Came i m) where
    pub at_end_lem : length t ≤ i → ComesTo (λ k. (end, record { at = length t; remembered = plain m }))
    at_end_lem h k = came k ∙ loop.ends (rules σ) t (cursor σ) k i (plain m) h

    module _ (inside : i < length t) (e : ℕ) (here : e ≡ line_end t i) where
      pub line_order : i ≤ e
      line_order = omega (arith, line_end_after t i inside)

      pub line_inside : e ≤ length t
      line_inside = omega (arith, line_end_inside t i (omega arith))

      pub line_less : length t - e < length t - i
      line_less = omega (arith, line_end_after t i inside)

      module _ (y : Line) (c : y ≡ line_of σ.columns (take (e - i) (drop i t))) where
        says : (rules σ).classify (between i e) ≡ said (between i e) y
        says = ap (said (between i e)) (sym c)

        pub unreadable : y ≡ UnreadableLine → σ.position ≤ length t → ComesTo (λ k. (refused 6, cursor σ))
        unreadable h b k = came k ∙ loop.six (rules σ) t (cursor σ) k i e (plain m) inside here (says ∙ ap (said (between i e)) h) b

        pub passes : y ≡ Passed → Came e m
        passes h k = came k ∙ loop.passes (rules σ) t (cursor σ) k i e (plain m) inside here (says ∙ ap (said (between i e)) h)

        pub wraps : (p : NetworkPrefix) → y ≡ Wrapped p → Came e (Valid p)
        wraps p h k = came k ∙ loop.wraps (rules σ) t (cursor σ) k i e (plain m) inside here p (says ∙ ap (said (between i e)) h)

        module _ (x : PrefixText) (r : RouteEntry) (h : y ≡ Route r x) (n : Remembered) (g : plain n ≡ replace (text_of x) (plain m)) where
          is_route : (rules σ).classify (between i e) ≡ said (between i e) (Route r x)
          is_route = says ∙ ap (said (between i e)) h

          pub passes_route : ((p : NetworkPrefix) → n ≡ Valid p → ⊥) → Came e n
          passes_route o k = came k ∙ go n o g
            where
              go : (n : Remembered) → ((p : NetworkPrefix) → n ≡ Valid p → ⊥) → plain n ≡ replace (text_of x) (plain m)
                  → come (rules σ) t (cursor σ) k i (plain m) ≡ come (rules σ) t (cursor σ) k e (plain n)
              go Nothing o g = loop.under_nothing (rules σ) t (cursor σ) k i e (plain m) inside here (text_of x) (r, asns_of (path_of r (between i e))) is_route (sym g)
              go Invalid o g = loop.under_invalid (rules σ) t (cursor σ) k i e (plain m) inside here (text_of x) (r, asns_of (path_of r (between i e))) is_route (sym g)
              go (Valid p) o g = absurd (o p refl)

          pub reaches_route : (p : NetworkPrefix) → n ≡ Valid p → σ.position ≤ length t → ComesTo (λ k. at_route σ k p (r, asns_of (path_of r (between i e))) e)
          reaches_route p f b k = came k ∙ go k (leb (length asns) k) refl
            where
              asns : List ℕ
              asns = asns_of (path_of r (between i e))

              brings : replace (text_of x) (plain m) ≡ valid p
              brings = sym g ∙ ap plain f

              go : (k : ℕ) (q : Bool) → leb (length asns) k ≡ q → come (rules σ) t (cursor σ) k i (plain m) ≡ at_route σ k p (r, asns) e
              go k true s = loop.yields (rules σ) t (cursor σ) k i e (plain m) inside here (text_of x) (r, asns) is_route p brings (rw s) ∙ rw s
              go k false s = loop.short (rules σ) t (cursor σ) k i e (plain m) inside here (text_of x) (r, asns) is_route p 7 brings (rw s) b ∙ rw s

-- a refusal leaves the state as it was
pub stays : (σ : State) (n : ℕ) → stepped σ (refused n, cursor σ) ≡ (refused n, σ)
stays σ n = ap (λ (s : State). (refused n, s)) (moved_cursor σ)

-- a route under a valid prefix
module _ (σ : State) (p : NetworkPrefix) (e : RouteEntry) (line : List ℕ) (j : ℕ) (old : List ℕ) (path : List ℕ) (g : path ≡ path_of e line) (put : Result ℕ AsnsError) (new : List ℕ) (wrote : (put ≡ put_answer (asns_of path) old) × (new ≡ front (asns_of path) old)) where
  abbrev step : Step
  step = stepped σ (at_route σ (length old) p (e, asns_of (path_of e line)) j)

  -- an answer, by the step over the path that was read
  by_path : (z : Step) → stepped σ (at_route σ (length old) p (e, asns_of path) j) ≡ z → (r : (State × Result (Option Element) NextError)) → told r new ≡ z → new ≡ lent z.0 old → Answers step old r new
  by_path z h r f k =
      let same : step ≡ z = ap (λ (l : List ℕ). stepped σ (at_route σ (length old) p (e, asns_of l) j)) (sym g) ∙ h in
      (f ∙ sym same, k ∙ ap (λ (y : Step). lent y.0 old) (sym same))

  pub refuses_7 : (e : AsnsError) → put ≡ Err e → Answers step old (σ, Err TooFewPlaces) new
  refuses_7 FewPlaces k =
      let few : leb (length (asns_of path)) (length old) ≡ false = few_told (asns_of path) old (sym wrote.0 ∙ k) in
      by_path (refused 7, σ) (rw few (stays σ 7)) (σ, Err TooFewPlaces) refl (wrote.1 ∙ few_kept (asns_of path) old few)

  module _ (n : ℕ) (k : put ≡ Ok n) where
    fits : leb (length (asns_of path)) (length old) ≡ true
    fits = (all_told (asns_of path) old n (sym wrote.0 ∙ k)).0

    counted : n ≡ length (asns_of path)
    counted = (all_told (asns_of path) old n (sym wrote.0 ∙ k)).1

    laid : new ≡ asns_of path ++ drop (length (asns_of path)) old
    laid = wrote.1 ∙ all_laid (asns_of path) old fits

    taken : take (length (asns_of path)) new ≡ asns_of path
    taken = rw laid (take_at (asns_of path) (drop (length (asns_of path)) old) (length (asns_of path)) refl)

    pub yields : (o : Option Asn) → o ≡ origin_asn (take n new) → (y : Elem) → y ≡ element_of σ p e n o → (s : State) → s ≡ moved σ (record { at = j; remembered = valid p })
        → Answers step old ((s, Ok (Some y))) new
    yields o eo y ey s es =
        let made : Elem = element_of σ p e (length (asns_of path)) (origin_asn (asns_of path)) in
        let origin : o ≡ origin_asn (asns_of path) = eo ∙ ap origin_asn (ap (λ (k : ℕ). take k new) counted ∙ taken) in
        let same : y ≡ made = ey ∙ ap (λ (x : Option Asn). element_of σ p e n x) origin ∙ ap (λ (k : ℕ). element_of σ p e k (origin_asn (asns_of path))) counted in
        by_path (element (made, asns_of path), moved σ (record { at = j; remembered = valid p })) (rw fits) ((s, Ok (Some y)))
        (ap (λ (v : Elem). told ((s, Ok (Some v))) new) same ∙ ap (λ (l : List ℕ). (element (made, l), s)) taken ∙ ap (λ (z : State). (element (made, asns_of path), z)) es)
        laid

-- next's ways out, by where the loop has come
module _ (σ : State) (t old : List ℕ) (b : Bool) (eb : b ≡ spoilt σ (length t)) where
  answers : (z : Step) → next σ t (length old) ≡ z → (r : (State × Result (Option Element) NextError)) (new : List ℕ) → Answers z old r new → Answers (next σ t (length old)) old r new
  answers z e r new h = (h.0 ∙ sym e, h.1 ∙ ap (λ (y : Step). lent y.0 old) (sym e))

  is_5 : b ≡ true → next σ t (length old) ≡ (refused 5, σ)
  unfolding next
  is_5 h = rw (← eb, h)

  pub refuses_5 : b ≡ true → Answers (next σ t (length old)) old ((σ, Err Spoilt)) old
  refuses_5 h = answers (refused 5, σ) (is_5 h) ((σ, Err Spoilt)) old (refl, refl)

  module _ (h : b ≡ false) where
    pub in_part : σ.position ≤ length t
    in_part = position_inside σ (length t) (sym eb ∙ h)

    steps : next σ t (length old) ≡ stepped σ (next_at (rules σ) t (length old) (cursor σ))
    unfolding next
    steps = rw (← eb, h)

    -- where the loop has come to the position i with m remembered, and the lent list is as it was
    module _ (lies : List ℕ) (kept : lies ≡ old) (inside : σ.position ≤ length t) (i : ℕ) (m : Remembered) (came : Came σ t i m) where
      by_loop : (z : ℕ → Answer WithAsns × Cursor NetworkPrefix) → ComesTo σ t z → next σ t (length old) ≡ stepped σ (z (length old))
      by_loop z e = steps ∙ ap (stepped σ) (e (length old))

      pub says_end : length t ≤ i → (s : State) → s ≡ moved σ (record { at = length t; remembered = plain m }) → Answers (next σ t (length old)) old ((s, Ok None)) lies
      says_end l s f =
          answers (end, moved σ (record { at = length t; remembered = plain m })) (by_loop (λ k. (end, record { at = length t; remembered = plain m })) (at_end_lem σ t i m came l)) ((s, Ok None)) lies
          (ap (λ (y : State). (end, y)) f, kept)

      module _ (l : i < length t) (e : ℕ) (here : e ≡ line_end t i) (y : Line) (c : y ≡ line_of σ.columns (take (e - i) (drop i t))) where
        pub refuses_6 : y ≡ UnreadableLine → Answers (next σ t (length old)) old ((σ, Err Unreadable)) lies
        refuses_6 f = answers (refused 6, σ) (by_loop (λ k. (refused 6, cursor σ)) (unreadable σ t i m came l e here y c f inside) ∙ stays σ 6) ((σ, Err Unreadable)) lies (refl, kept)

        pub at_route_lem : (x : PrefixText) (r : RouteEntry) → y ≡ Route r x → (n : Remembered) → plain n ≡ replace (text_of x) (plain m) → (p : NetworkPrefix) → n ≡ Valid p
            → (a : (State × Result (Option Element) NextError)) (new : List ℕ) → Answers (stepped σ (at_route σ (length lies) p (r, asns_of (path_of r (take (e - i) (drop i t)))) e)) lies a new
            → Answers (next σ t (length old)) old a new
        at_route_lem x r f n g p q a new w =
            answers (stepped σ (at_route σ (length old) p (r, asns_of (path_of r (take (e - i) (drop i t)))) e))
            (by_loop (λ k. at_route σ k p (r, asns_of (path_of r (take (e - i) (drop i t)))) e) (reaches_route σ t i m came l e here y c x r f n g p q inside)) a new
            (subst (λ (l : List ℕ). Answers (stepped σ (at_route σ (length l) p (r, asns_of (path_of r (take (e - i) (drop i t)))) e)) l a new) kept w)

-- next goes on with the same reading, also where it refuses
pub next_moved : (σ : State) (t : List ℕ) (k : ℕ) → moved σ (cursor (next σ t k).1) ≡ (next σ t k).1
unfolding next
next_moved σ t k = go (spoilt σ (length t))
  where
    go : (b : Bool) → moved σ (cursor (cond b (refused 5, σ) (stepped σ (next_at (rules σ) t k (cursor σ)))).1) ≡ (cond b (refused 5, σ) (stepped σ (next_at (rules σ) t k (cursor σ)))).1
    go true = moved_cursor σ
    go false = ap (moved σ) (cursor_moved σ (next_at (rules σ) t k (cursor σ)).1)

-- for next
pub ruleset next_laws = (refl, comes, line_order, line_inside, line_less, passes, wraps, passes_route, refuses_5, in_part, refuses_6, says_end, at_route_lem)
