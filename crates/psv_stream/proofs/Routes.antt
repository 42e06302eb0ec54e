-- A route's line: by the numbers of its path, or put together from texts; and what the lines of the body begin with.
use Rattle.std.specs.Prelude.{Option, Some, None, Result, Ok, Err}
use Rattle.std.proofs.Common.{◌≡◌, ℕ, ◌+◌, ◌<◌, ◌≤◌, Bool, true, false, not, ◌||◌, ltb, leb, List, ◌++◌, length, take, drop, sym, refl, ap, ◌∙◌, subst, append_assoc, arith, length-append, length-take, take_at, le-ltb, le-leb}
use lib.Seq.{take-length}
use borrow.Author.Tests.{lt-leb}
use Rattle.output.specs.Output.{Written, front, answer, room, overwrite}
use Rattle.output.specs.declared.PutError.{PutError}
use Rattle.output.proofs.Output.{all_written, length_overwrite}
use Rattle.columns.specs.Columns.{are_rising}
use Rattle.seconds.specs.Seconds.{is_timestamp}
use Rattle.network.specs.Prefix.{valid_prefix}
use Rattle.network.specs.declared.NetworkPrefix.{NetworkPrefix}
use Rattle.elem.specs.Element.{spoilt as spoiltElement}
use Rattle.elem.specs.declared.Element.{Element}
use Rattle.network.specs.declared.Asn.{Asn}
use Rattle.psv.specs.declared.Attributes.{Attributes}
use Rattle.psv.specs.Line.{psv_text, between_text, sequence_text, asn_text, texts_line}
use Rattle.psv.specs.declared.ElementError.{ElementError}
use Rattle.psv.specs.declared.ElementError.TheVariants.{Spoilt, TooShort}
use Rattle.psv.proofs.Copied.{copied_line}
use Rattle.path_text.specs.Path.{asns_of, put_answer}
use Rattle.path_text.specs.declared.AsnsError.{AsnsError}
use Rattle.path_text.specs.declared.AsnsError.TheVariants.{TooFewPlaces}
use Rattle.path_text.proofs.PathLaws.{few_told, all_told, all_laid}
use Rattle.text_dump_line.specs.Line.{path_of}
use Rattle.text_dump_line.specs.declared.PrefixText.{PrefixText}
use Rattle.text_dump_line.specs.declared.PrefixText.TheVariants as prefix
use Rattle.text_dump_line.specs.declared.RouteEntry.{RouteEntry}
use Rattle.plain_reader.specs.Rules.{replace}
use Rattle.text_dump.specs.State.{plain, stored, spoilt}
use Rattle.text_dump.specs.Rules.{text_of, origin_asn, element_of}
use Rattle.text_dump.specs.declared.Remembered.{Remembered}
use Rattle.text_dump.specs.declared.Remembered.TheVariants as remembered
use Rattle.text_dump.specs.declared.State.{State}
use Rattle.text_dump.proofs.StateLaws.{stored_plain, first, second}
use Rattle.psv_stream.specs.Parts.{PutElement, element_for, PutRoute, PutCopy, copied_text, Copies, front_of, Fine, Starts, kept_len}
use Rattle.psv_stream.specs.Refusal.{of_asns, of_element}
use Rattle.psv_stream.specs.declared.Refusal.{Refusal}
use Rattle.std.specs.Result.{IsErrAnd, result_unwrap_or}
use Rattle.psv_stream.specs.declared.Refusal.TheVariants.{SpoiltElement, ElementTooLong}
use Rattle.psv_stream.proofs.Texts.{Told, told_by, text_taken, spoilt_taken}

-- by the numbers
module _ (σ : State) (p : NetworkPrefix) (e : RouteEntry) (path old : List ℕ) (places : length old ≡ 16384) (r : Result ℕ AsnsError) (new : List ℕ) (told : (r ≡ put_answer (asns_of path) old) × (new ≡ front (asns_of path) old)) where
  pub seven : (z : AsnsError) → r ≡ Err z → (out : List ℕ) (r' : Result ℕ Refusal) → IsErrAnd r' (λ y. y ≡ of_asns z) → PutRoute σ p e (asns_of path) out out r'
  seven z k out (Ok w) g = absurd g
  seven TooFewPlaces k out (Err y) g =
      let few : leb (length (asns_of path)) 16384 ≡ false = rw places at (few_told (asns_of path) old (sym told.0 ∙ k)) in
      rw g ((λ n u. rw few), refl)

  module _ (count : ℕ) (k : r ≡ Ok count) (o : Option Asn) (last : o ≡ origin_asn (take count new)) (y : Element) (made : y ≡ element_of σ p e count o) where
    told_all : (leb (length (asns_of path)) (length old) ≡ true) × (count ≡ length (asns_of path))
    told_all = all_told (asns_of path) old count (sym told.0 ∙ k)

    places_fit : leb (length (asns_of path)) 16384 ≡ true
    places_fit = rw places at told_all.0

    taken : take count new ≡ asns_of path
    taken = rw (told.1, all_laid (asns_of path) old told_all.0) (take_at (asns_of path) (drop (length (asns_of path)) old) count (sym told_all.1))

    abbrev element : Element
    element = element_for σ p e (asns_of path)

    is_element : y ≡ element
    is_element = made ∙ ap (λ (x : Option Asn). element_of σ p e count x) (last ∙ ap origin_asn taken) ∙ ap (λ (c : ℕ). element_of σ p e c (origin_asn (asns_of path))) told_all.1

    -- of the lent list only the element's own numbers count
    own : {A : Type 0} (f : Element → List ℕ → A) → f y (take y.count new) ≡ f element (asns_of path)
    own f = ap (f y) (ap (λ (z : Element). take z.count new) made ∙ taken) ∙ ap (λ (z : Element). f z (asns_of path)) is_element

    text : psv_text y new ≡ psv_text element (asns_of path)
    text = sym (text_taken y new) ∙ own psv_text

    spoils : spoiltElement y new ≡ spoiltElement element (asns_of path)
    spoils = sym (spoilt_taken y new) ∙ own spoiltElement

    module _ (out out' : List ℕ) (q : Result ℕ ElementError) (known : PutElement y new out out' q) where
      pub numbers_wrote : (w : ℕ) → q ≡ Ok w → PutRoute σ p e (asns_of path) out out' (Ok w)
      numbers_wrote w f =
          let h : PutElement y new out out' (Ok w) = rw f at known in
          let fine : spoiltElement element (asns_of path) ≡ false = sym spoils ∙ h.0 in
          let short : leb (length (psv_text element (asns_of path))) 65536 ≡ true = rw text at (le-leb (length (psv_text y new)) 65536 h.1) in
          (λ n u. rw (places_fit, fine, short), rw text at h.2)

      pub eight : q ≡ (Err Spoilt) → PutRoute σ p e (asns_of path) out out' (Err SpoiltElement)
      eight f =
          let h : PutElement y new out out' (Err Spoilt) = rw f at known in
          let bad : spoiltElement element (asns_of path) ≡ true = sym spoils ∙ h.0 in
          (λ n u. rw (places_fit, bad), h.1)

      pub nine : q ≡ (Err TooShort) → PutRoute σ p e (asns_of path) out out' (Err ElementTooLong)
      nine f =
          let h : PutElement y new out out' (Err TooShort) = rw f at known in
          let fine : spoiltElement element (asns_of path) ≡ false = sym spoils ∙ h.0 in
          let long : leb (length (psv_text element (asns_of path))) 65536 ≡ false = rw text at (lt-leb (length (psv_text y new)) 65536 h.1) in
          (λ n u. rw (places_fit, fine, long), h.2)

      pub numbers_failed : (z : ElementError) → q ≡ Err z → (r' : Result ℕ Refusal) → IsErrAnd r' (λ y. y ≡ of_element z) → PutRoute σ p e (asns_of path) out out' r'
      numbers_failed z f (Ok w) g = absurd g
      numbers_failed Spoilt f (Err y) g = rw g (eight f)
      numbers_failed TooShort f (Err y) g = rw g (nine f)

-- an element of a reading is not spoilt
module _ (σ : State) (p : NetworkPrefix) (e : RouteEntry) (ns : List ℕ) where
  pub unspoilt : is_timestamp σ.timestamp ≡ true → valid_prefix p ≡ true → spoiltElement (element_for σ p e ns) ns ≡ false
  unfolding spoiltElement
  unspoilt time valid = rw (valid, time, le-ltb (length ns) (length ns) (omega arith))

  fine_element : Fine σ (remembered.Valid p) → spoiltElement (element_for σ p e ns) ns ≡ false
  unfolding spoilt
  fine_element fine =
      let rising : Bool = ltb 0 0 || not (are_rising σ.columns) in
      let both : Bool = rising || not (is_timestamp σ.timestamp) in
      unspoilt (second rising (is_timestamp σ.timestamp) (first both (not (valid_prefix p)) fine)) (second both (valid_prefix p) fine)

-- from texts, with a route's attributes
module _ (σ : State) (p : NetworkPrefix) (e : RouteEntry) where
  abbrev attributes : Attributes
  attributes = record { origin = e.origin; next_hop = e.next_hop; local_pref = e.local_pref; metric = e.metric }

  pub copied : (start path : List ℕ) → (0 < length start → start ≡ front_of σ ++ between_text p) → (length start ≡ 0 → ⊥) → Fine σ (remembered.Valid p)
      → (out new : List ℕ) (r : Option ℕ) → Copies start path attributes out new r → PutCopy σ p e (asns_of path) out new r
  unfolding texts_line
  copied start path starts some fine out new = go
    where
      text : copied_text start path attributes ≡ psv_text (element_for σ p e (asns_of path)) (asns_of path)
      text =
          copied_line (element_for σ p e (asns_of path)) (asns_of path) start (sequence_text (asns_of path)) (asn_text (origin_asn (asns_of path))) (asns_of path) (starts (omega (arith, some))) refl (sym (take-length (asns_of path))) refl

      go : (r : Option ℕ) → Copies start path attributes out new r → PutCopy σ p e (asns_of path) out new r
      go (Some w) h =
          let short : leb (length (psv_text (element_for σ p e (asns_of path)) (asns_of path))) 65536 ≡ true = rw text at (le-leb (length (copied_text start path attributes)) 65536 h.1) in
          (λ n u. rw (le-leb (length (asns_of path)) 16384 h.0, fine_element σ p e (asns_of path) fine, short), rw text at h.2)
      go None h = h

  -- the one or the other
  module _ (path line : List ℕ) (here : path ≡ path_of e line) (out new : List ℕ) (c : Option ℕ) (known : PutCopy σ p e (asns_of path) out new c) where
    pub by_copy : (w : ℕ) → c ≡ Some w → PutRoute σ p e (asns_of (path_of e line)) out new (Ok w)
    by_copy w f = let h : PutCopy σ p e (asns_of path) out new (Some w) = rw f at known in rw (← here) h

    pub by_numbers : c ≡ None → (newer : List ℕ) (r : Result ℕ Refusal) → PutRoute σ p e (asns_of path) new newer r
        → PutRoute σ p e (asns_of (path_of e line)) out newer r
    by_numbers f newer r d = let h : PutCopy σ p e (asns_of path) out new None = rw f at known in rw (← here, ← h) d

-- what lines begin with
module _ (start : List ℕ) (n : ℕ) (m : Remembered) (k : ℕ) where
  pub none_started : (l : Remembered) (f : List ℕ) → Starts f start n m k → Starts f start n l 0
  none_started l f b = record { front_inside = b.front_inside; is_front = b.is_front; inside = omega arith; is_start = λ q e h. absurd (omega arith) }

  -- writing behind the front
  module _ (t new : List ℕ) (r : ℕ) (w : Written t start n new r) (f : List ℕ) (b : Starts f start n m k) where
    same_front : take n new ≡ take n start
    unfolding overwrite
    same_front =
        rw (w.list, append_assoc)
        (take_at (take n start) (take (room start n t) t ++ drop (n + room start n t) start) n (rw length-take (omega (arith, b.front_inside))))

    same_size : length new ≡ length start
    same_size = ap length w.list ∙ length_overwrite start n t

    pub none_written : (l : Remembered) → Starts f new n l 0
    none_written l =
        record { front_inside = omega (arith, same_size, b.front_inside); is_front = λ h. same_front ∙ b.is_front h; inside = omega arith; is_start = λ q e h. absurd (omega arith) }

    all_fits : r < length start → n + length t ≤ length start
    unfolding room
    all_fits h = omega (arith, w.place, b.front_inside)

    start_written : (n ≡ 0 → ⊥) → (h : r < length start) → take r new ≡ f ++ t
    start_written some h =
        let z = all_written t start new n r w (all_fits h) in
        rw z.0
        (take_at (take n start ++ t) (drop (n + length t) start) r (rw (length-append, length-take) (omega (arith, z.1, b.front_inside)))
        ∙ ap (λ (x : List ℕ). x ++ t) (b.is_front (omega (arith, some))))

pub started : (start new : List ℕ) (n k r : ℕ) (p : NetworkPrefix) → Written (between_text p) start n new r → (n ≡ 0 → ⊥) → r < length new
    → (f : List ℕ) → Starts f start n (remembered.Valid p) k → Starts f new n (remembered.Valid p) r
started start new n k r p w some h f b =
    let z = none_written start n (remembered.Valid p) k (between_text p) new r w f b (remembered.Valid p) in
    record {
      front_inside = z.front_inside;
      is_front = z.is_front;
      inside = omega arith;
      is_start = λ q e i.
          let same : p ≡ q = cc in
          start_written start n (remembered.Valid p) k (between_text p) new r w f b some (omega (arith, same_size start n (remembered.Valid p) k (between_text p) new r w f b)) ∙ ap (λ (x : NetworkPrefix). f ++ between_text x) same;
    }

pub not_started : (start new : List ℕ) (n k r : ℕ) (p : NetworkPrefix) → Written (between_text p) start n new r → (f : List ℕ) → Starts f start n (remembered.Valid p) k
    → Starts f new n (remembered.Valid p) 0
not_started start new n k r p w f b = none_written start n (remembered.Valid p) k (between_text p) new r w f b (remembered.Valid p)

-- from line to line
pub text_keeps : (f start : List ℕ) (n : ℕ) (m : Remembered) (k : ℕ) → Starts f start n m k → (x : PrefixText) (l : Remembered) → plain l ≡ replace (text_of x) (plain m)
    → Starts f start n l (kept_len x k)
text_keeps f start n m k b prefix.Blank l g = subst (λ (z : Remembered). Starts f start n z k) (sym (sym (stored_plain l) ∙ ap stored g ∙ stored_plain m)) b
text_keeps f start n m k b prefix.Invalid l g = none_started start n m k l f b
text_keeps f start n m k b (prefix.Valid p) l g = none_started start n m k l f b

-- the front printed
module _ (σ : State) (m : Remembered) (out : List ℕ) where
  pub front_put : (r : Result ℕ PutError) (new : List ℕ) → (r ≡ answer (front_of σ) out) × (new ≡ front (front_of σ) out) → (n : ℕ) → r ≡ Ok n → Starts (front_of σ) new n m 0
  front_put r new told n e =
      let z : Told (front_of σ) out new (Ok n) = rw e at (told_by (front_of σ) out new r told) in
      record {
        front_inside = rw (z.2, length-append) (omega (arith, z.0));
        is_front = λ i. rw z.2 (take_at (front_of σ) (drop (length (front_of σ)) out) n (sym z.0));
        inside = omega arith;
        is_start = λ q f i. absurd (omega arith);
      }

  pub front_or : (r : Result ℕ PutError) (new : List ℕ) → (r ≡ answer (front_of σ) out) × (new ≡ front (front_of σ) out) → (n : ℕ) → n ≡ result_unwrap_or r 0
      → Starts (front_of σ) new n m 0
  front_or (Ok k) new told n e = front_put (Ok k) new told n (ap Ok (sym e))
  front_or (Err z) new told n e =
      rw e (record { front_inside = omega arith; is_front = λ h. absurd (omega arith); inside = omega arith; is_start = λ q f h. absurd (omega arith) })
