-- Demand 3 of opening, next and turn.
use Prim.Native.Nat.{ℕ}
use mathlib.Core.Path.{◌≡◌, refl, sym, ap, ◌∙◌}
use mathlib.Core.Bool.{true, false}
use mathlib.Core.List.{List, [], ◌∷◌, tail}
use lib.ListN.{length, drop}
use lib.Ieee.{Float}
use borrow.Author.Tests.{le-ltb}
use Rattle.scan.specs.Lines.{Cut}
use Rattle.columns.specs.Columns.{are_rising}
use Rattle.seconds.specs.Seconds.{is_timestamp}
use Rattle.network.specs.Prefix.{valid_prefix}
use Rattle.network.specs.declared.NetworkPrefix.{NetworkPrefix}
use Rattle.network.proofs.Valid.{read_valid}
use Rattle.plain_reader.specs.Lists.{Each}
use Rattle.plain_reader.specs.Calls.{Call, end}
use Rattle.plain_reader.specs.Elements.{Readable, yielded, classified}
use Rattle.plain_reader.specs.Demand.{Demand3}
use Rattle.plain_reader.specs.Cursor.{view, next_at}
use Rattle.plain_reader.specs.Refinement.{Sound, FitsPrefixFact, Implements, Accepts}
use Rattle.plain_reader.proofs.Demand3 as theory
use Rattle.plain_reader.proofs.End.{plain_end}
use Rattle.text_dump.specs.State.{plain, cursor, moved, valid_remembered, spoilt}
use Rattle.text_dump.specs.Open.{opened, open_of, accepted}
use Rattle.text_dump.specs.Rules.{rules}
use Rattle.text_dump.specs.Next.{stepped, next}
use Rattle.text_dump.specs.Reader.{reader, opening}
use Rattle.text_dump.specs.declared.Remembered.{Remembered}
use Rattle.text_dump.specs.declared.Remembered.TheVariants.{Nothing, Invalid, Valid}
use Rattle.text_dump.specs.declared.State.{State}
use Rattle.text_dump.proofs.StateLaws.{moved_cursor, cursor_moved}
use Rattle.text_dump.proofs.RulesLaws.{lines_fit}
use Rattle.text_dump.proofs.OpenLaws.{open_append, opened_rising, opened_time, opened_nothing}

abbrev pub Fits : NetworkPrefix → Type 0
Fits p = valid_prefix p ≡ true

valid_there : (m : Remembered) → FitsPrefixFact Fits (plain m) → valid_remembered m ≡ true
valid_there Nothing h = refl
valid_there Invalid h = refl
valid_there (Valid p) h = h

pub not_spoilt : (s : State) (t : List ℕ) → are_rising s.columns ≡ true → is_timestamp s.timestamp ≡ true → Sound Fits t (cursor s) → spoilt s (length t) ≡ false
unfolding spoilt
not_spoilt s t r i h = rw (le-ltb (length t) s.position h.0, r, i, valid_there s.remembered h.1)

-- the states of one reading: they differ from σ in the cursor alone
abbrev pub SameReading : State → State → Type 0
SameReading σ s = s ≡ moved σ (cursor s)

module _ (σ : State) (rising : are_rising σ.columns ≡ true) (time : is_timestamp σ.timestamp ≡ true) where
  next_is : (t : List ℕ) (k : ℕ) (s : State) → SameReading σ s → Sound Fits t (cursor s)
      → next s t k ≡ ((next_at (rules σ) t k (cursor s)).0, moved s (next_at (rules σ) t k (cursor s)).1)
  unfolding next
  next_is t k s r h =
      let r' : are_rising s.columns ≡ true = ap (λ (x : State). are_rising x.columns) r ∙ rising in
      let i : is_timestamp s.timestamp ≡ true = ap (λ (x : State). is_timestamp x.timestamp) r ∙ time in
      rw (not_spoilt s t r' i h) (ap (λ (x : State). stepped s (next_at (rules x) t k (cursor s))) r)

  pub implements : Implements (rules σ) (reader σ)
  implements = record {
    Takes = λ t. Unit {0};
    Fits = Fits;
    Rest = SameReading σ;
    get = cursor;
    set = moved;
    get_set = λ t s c f r h. cursor_moved s c;
    rest_set = λ t s c f r h. ap (λ (x : State). moved x c) r ∙ ap (moved σ) (sym (cursor_moved s c));
    lines_fit = lines_fit Fits read_valid σ;
    next_is = λ t k s f r h. next_is t k s r h;
    turn_is = λ t p s f r h. refl;
    remembered_is = λ s. refl;
  }

-- a header that opening accepts, and that ends with its column line's line feed
pub record Accepted (time : Float) (header : List ℕ) (σ : State) : Type 0 where
  pub opens : open_of time header ≡ opened σ
  pub ends : Cut header
  pub whole : σ.position ≡ length header

module _ (time : Float) (header : List ℕ) (σ : State) (a : Accepted time header σ) where
  reads : Implements (rules σ) (reader σ)
  reads = implements σ (opened_rising time header σ a.opens) (opened_time time header σ a.opens)

  accepts : Accepts (rules σ) (reader σ) reads (opening time) header
  unfolding reads implements
  accepts = record {
    start = σ;
    opens = λ p f. ap accepted (open_append time header σ a.opens p a.ends);
    starts_at = rw (a.whole, opened_nothing time header σ a.opens);
    starts_rest = sym (moved_cursor σ);
  }

  -- on every list of parts and every list of calls
  pub demand_3 : (ps : List (List ℕ)) (cs : List (Call ℕ)) → Demand3 (rules σ) (reader σ) (opening time) header ps cs
  unfolding reads implements
  demand_3 ps cs = theory.demand_3 (rules σ) (reader σ) reads (opening time) header accepts ps cs tt (any (tail ps))
    where
      any : (l : List (List ℕ)) → Each (λ (p : List ℕ). Unit {0}) l
      any [] = tt
      any (p ∷ l) = (tt, any l)

-- next says End only if no later line of the part yields, and only if all of them are readable
pub end_is_last : (s : State) (t : List ℕ) (k : ℕ) → spoilt s (length t) ≡ false → (next s t k).0 ≡ end
    → let l = classified (rules s) (drop s.position t) in (yielded (rules s) (plain s.remembered) l ≡ []) × Each Readable l
unfolding next
end_is_last s t k h e = plain_end (rules s) (view t (cursor s)) k (rw h at e)
