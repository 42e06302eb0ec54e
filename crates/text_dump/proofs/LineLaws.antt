-- One line as a part by itself: what next answers of it, and that it spoils no state.
use Prim.Native.Nat.{ℕ, ◌-◌, ◌≤◌, ◌<◌}
use mathlib.Core.Path.{◌≡◌, refl, sym, ap, subst, ◌∙◌}
use mathlib.Core.Bool.{Bool, true, false, not, ◌||◌}
use mathlib.Core.List.{List, [], ◌∷◌, head_d, nil≢cons}
use native.Mathlib.Omega.{arith}
use lib.ListN.{length, take, drop}
use lib.Seq.{take_all}
use lib.Dec.{ltb}
use borrow.Author.Tests.{le-ltb, le-leb, lt-leb}
use Rattle.scan.specs.Lines.{lines, line_end}
use Rattle.columns.specs.Columns.{are_rising}
use Rattle.seconds.specs.Seconds.{is_timestamp}
use Rattle.network.specs.declared.NetworkPrefix.{NetworkPrefix}
use Rattle.network.proofs.Valid.{read_valid}
use Rattle.path_text.specs.Path.{asns_of}
use Rattle.text_dump_line.specs.Line.{line_of, path_of}
use Rattle.text_dump_line.specs.declared.RouteEntry.{RouteEntry}
use Rattle.text_dump_line.specs.declared.PrefixText.{PrefixText}
use Rattle.text_dump_line.specs.declared.Line.{Line}
use Rattle.text_dump_line.specs.declared.Line.TheVariants.{Unreadable, Passed, Wrapped, Route}
use Rattle.plain_reader.specs.Rules.{Remembered as Plain, nothing, invalid, valid, replace}
use Rattle.plain_reader.specs.Calls.{Answer, element, end, refused}
use Rattle.plain_reader.specs.Elements.{after_line}
use Rattle.plain_reader.specs.Cursor.{Cursor, to_start}
use Rattle.plain_reader.specs.Refinement.{FitsPrefixFact, FitsLine}
use Rattle.plain_reader.proofs.Fits.{line_keeps}
use Rattle.text_dump.specs.State.{plain, stored, cursor, moved, turned, valid_remembered, spoilt}
use Rattle.text_dump.specs.Rules.{WithAsns, text_of, said, origin_asn, element_of}
use Rattle.text_dump.specs.Next.{stepped, next, at_route}
use Rattle.text_dump.specs.declared.Remembered.{Remembered}
use Rattle.text_dump.specs.declared.Remembered.TheVariants.{Nothing, Invalid, Valid}
use Rattle.text_dump.specs.declared.State.{State}
use Rattle.text_dump.proofs.StateLaws.{stored_plain, plain_stored, first, second}
use Rattle.text_dump.proofs.RulesLaws.{lines_fit}
use Rattle.text_dump.proofs.Demand3.{Fits}
use Rattle.text_dump.proofs.NextLaws as loop
use Rattle.text_dump.proofs.NextLaws.{Came, ComesTo, stays}

-- turning touches the cursor alone
pub turned_moved : (σ : State) (c : Cursor NetworkPrefix) → turned (moved σ c) ≡ moved σ (to_start c)
turned_moved σ c = ap (λ (m : Plain NetworkPrefix). moved σ (record { at = 0; remembered = m })) (plain_stored c.remembered)

-- at a part's start the part's length spoils nothing
pub spoilt_anywhere : (σ : State) (a b : ℕ) → spoilt (turned σ) a ≡ spoilt (turned σ) b
unfolding spoilt
spoilt_anywhere σ a b = rw (le-ltb a 0 (omega arith), le-ltb b 0 (omega arith))

-- a state that is not spoilt stays so behind a line: the prefix that a line brings is valid
fits_there : (m : Remembered) → valid_remembered m ≡ true → FitsPrefixFact Fits (plain m)
fits_there Nothing h = tt
fits_there Invalid h = tt
fits_there (Valid p) h = h

valid_there : (c : Plain NetworkPrefix) → FitsPrefixFact Fits c → valid_remembered (stored c) ≡ true
valid_there nothing h = refl
valid_there invalid h = refl
valid_there (valid p) h = h

module _ (σ : State) (a : ℕ) (fine : spoilt (turned σ) a ≡ false) where
  abbrev others : Bool
  others = ltb a 0 || not (are_rising σ.columns) || not (is_timestamp σ.timestamp)

  others_fine : others ≡ false
  unfolding spoilt
  others_fine = first others (not (valid_remembered (stored (plain σ.remembered)))) fine

  fits_now : FitsPrefixFact Fits (plain σ.remembered)
  unfolding spoilt
  fits_now = fits_there σ.remembered (rw (stored_plain σ.remembered) at (second others (valid_remembered (stored (plain σ.remembered))) fine))

  fine_at_start : (c : Plain NetworkPrefix) → FitsPrefixFact Fits c → spoilt (moved σ (record { at = 0; remembered = c })) a ≡ false
  unfolding spoilt
  fine_at_start c h = rw (others_fine, valid_there c h)

  fine_with : (j b : ℕ) (c : Plain NetworkPrefix) → FitsPrefixFact Fits c → spoilt (turned (moved σ (record { at = j; remembered = c }))) b ≡ false
  fine_with j b c h =
      let s : State = moved σ (record { at = j; remembered = c }) in
      spoilt_anywhere s b a ∙ ap (λ (z : State). spoilt z a) (turned_moved σ (record { at = j; remembered = c })) ∙ fine_at_start c h

  module _ (l : List ℕ) (y : Line) (c : y ≡ line_of σ.columns l) (j b : ℕ) where
    fine_behind : (z : Line) → y ≡ z → spoilt (turned (moved σ (record { at = j; remembered = after_line (plain σ.remembered) (said l z) }))) b ≡ false
    fine_behind z h =
        fine_with j b (after_line (plain σ.remembered) (said l z))
        (line_keeps Fits (plain σ.remembered) (said l z) (subst (λ (w : Line). FitsLine Fits (said l w)) (sym c ∙ h) (lines_fit Fits read_valid σ l)) fits_now)

    pub fine_wrapped : (p : NetworkPrefix) → y ≡ Wrapped p → spoilt (turned (moved σ (record { at = j; remembered = valid p }))) b ≡ false
    fine_wrapped p h = fine_behind (Wrapped p) h

    pub fine_route : (x : PrefixText) (e : RouteEntry) → y ≡ Route e x → (n : Remembered) → plain n ≡ replace (text_of x) (plain σ.remembered)
        → spoilt (turned (moved σ (record { at = j; remembered = plain n }))) b ≡ false
    fine_route x e h n g = rw g (fine_behind (Route e x) h)

-- what next answers of a line
pub spoilt_line : (σ : State) (l : List ℕ) (k : ℕ) → spoilt (turned σ) (length l) ≡ true → next (turned σ) l k ≡ (refused 5, turned σ)
unfolding next
spoilt_line σ l k h = rw h

module _ (σ : State) (l : List ℕ) (k : ℕ) (one : lines l ≡ l ∷ []) (fine : spoilt (turned σ) (length l) ≡ false) where
  begun : Came (turned σ) l 0 σ.remembered
  begun = subst (Came (turned σ) l 0) (stored_plain σ.remembered) (loop.comes (turned σ) l)

  some : 0 < length l
  unfolding lines
  some = go l one
    where
      go : (s : List ℕ) → lines s ≡ s ∷ [] → 0 < length s
      go [] e = absurd (nil≢cons e)
      go (b ∷ s) e = omega arith

  ends : length l ≡ line_end l 0
  unfolding line_end head_d
  ends = rw one (omega arith)

  whole : take (length l - 0) (drop 0 l) ≡ l
  whole = take_all (length l - 0) l (omega arith)

  by_loop : (z : ℕ → Answer WithAsns × Cursor NetworkPrefix) → ComesTo (turned σ) l z → next (turned σ) l k ≡ stepped (turned σ) (z k)
  unfolding next
  by_loop z h = rw fine (ap (stepped (turned σ)) (h k))

  over : (n : Remembered) → Came (turned σ) l (length l) n → next (turned σ) l k ≡ (end, moved σ (record { at = length l; remembered = plain n }))
  over n h = by_loop (λ k. (end, record { at = length l; remembered = plain n })) (loop.at_end_lem (turned σ) l (length l) n h (omega arith))

  module _ (y : Line) (c : y ≡ line_of σ.columns l) where
    said_here : y ≡ line_of σ.columns (take (length l - 0) (drop 0 l))
    said_here = c ∙ ap (line_of σ.columns) (sym whole)

    pub unreadable_line_lem : y ≡ Unreadable → next (turned σ) l k ≡ (refused 6, turned σ)
    unreadable_line_lem h = by_loop (λ k. (refused 6, cursor (turned σ))) (loop.unreadable (turned σ) l 0 σ.remembered begun some (length l) ends y said_here h (omega arith)) ∙ stays (turned σ) 6

    pub passed_line : y ≡ Passed → next (turned σ) l k ≡ (end, moved σ (record { at = length l; remembered = plain σ.remembered }))
    passed_line h = over σ.remembered (loop.passes (turned σ) l 0 σ.remembered begun some (length l) ends y said_here h)

    pub wrapped_line : (p : NetworkPrefix) → y ≡ Wrapped p → next (turned σ) l k ≡ (end, moved σ (record { at = length l; remembered = valid p }))
    wrapped_line p h = over (Valid p) (loop.wraps (turned σ) l 0 σ.remembered begun some (length l) ends y said_here p h)

    module _ (x : PrefixText) (e : RouteEntry) (h : y ≡ Route e x) where
      -- a route without a valid prefix
      pub other_route : (n : Remembered) → plain n ≡ replace (text_of x) (plain σ.remembered) → ((p : NetworkPrefix) → n ≡ Valid p → ⊥)
          → next (turned σ) l k ≡ (end, moved σ (record { at = length l; remembered = plain n }))
      other_route n g o = over n (loop.passes_route (turned σ) l 0 σ.remembered begun some (length l) ends y said_here x e h n g o)

      module _ (p : NetworkPrefix) (g : replace (text_of x) (plain σ.remembered) ≡ valid p) where
        at_route_lem : next (turned σ) l k ≡ stepped (turned σ) (at_route (turned σ) k p (e, asns_of (path_of e l)) (length l))
        at_route_lem =
            by_loop (λ k. at_route (turned σ) k p (e, asns_of (path_of e (take (length l - 0) (drop 0 l)))) (length l)) (loop.reaches_route (turned σ) l 0 σ.remembered begun some (length l) ends y said_here x e h (Valid p) (sym g) p refl (omega arith))
            ∙ ap (λ (s : List ℕ). stepped (turned σ) (at_route (turned σ) k p (e, asns_of (path_of e s)) (length l))) whole

        pub yielding_route : length (asns_of (path_of e l)) ≤ k
            → next (turned σ) l k
            ≡ (element (element_of σ p e (length (asns_of (path_of e l))) (origin_asn (asns_of (path_of e l))), asns_of (path_of e l)), moved σ (record { at = length l; remembered = valid p }))
        yielding_route b = at_route_lem ∙ rw (le-leb (length (asns_of (path_of e l))) k b)

        pub long_route : k < length (asns_of (path_of e l)) → next (turned σ) l k ≡ (refused 7, turned σ)
        long_route b = at_route_lem ∙ rw (lt-leb (length (asns_of (path_of e l))) k b) (stays (turned σ) 7)
