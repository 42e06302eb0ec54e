-- The lines of a header that opening accepts: at each but the last there is no column header yet.
use Rattle.std.specs.Prelude.{Option, Some, None}
use Rattle.std.proofs.Common.{◌≡◌, ℕ, zero, suc, ◌+◌, ◌^◌, ◌<◌, ◌≤◌, Bool, true, false, cond, leb, List, [], ◌∷◌, ◌++◌, length, take, drop, sym, refl, ap, ◌∙◌, append_assoc, append-nil, mod-eq_of_lt, arith, length-append, length-drop, le-ltb, lt-ltb, leb-false, leb-true}
use mathlib.Core.List.{flatten, head_d, nil≢cons, tail-eq_of_cons-eq}
use lib.Ieee.{Float}
use Rattle.scan.specs.Lines.{lines, line_end}
use Rattle.scan.proofs.LineLaws.{flatten_lines, line_at, line_end_inside, line_end_after, no_lines}
use Rattle.utf8.specs.Utf8.{readable}
use Rattle.columns.specs.declared.Columns.{Columns}
use Rattle.seconds.specs.Seconds.{is_timestamp}
use Rattle.psv.specs.Line.{header_text}
use Rattle.plain_reader.specs.Lists.{Each}
use Rattle.plain_reader.proofs.ListLaws.{flatten_append}
use Rattle.text_dump_header.specs.Header.{columns_of, is_found, through, unreadable_line, preamble_of, last_columns, total, answer, header_from, missing, header}
use Rattle.text_dump_header.specs.declared.Preamble.{Preamble}
use Rattle.text_dump_header.proofs.HeaderLaws.{last_passed}
use Rattle.text_dump.specs.Open.{Opening, opened, open_with, open_of}
use Rattle.text_dump.specs.Open.{refused as notOpened}
use Rattle.text_dump.specs.declared.State.{State}
use Rattle.text_dump.proofs.Demand3.{Accepted}
use Rattle.psv_stream.specs.Printed.{body, feed, after, on_line, printed_from}
use Rattle.psv_stream.specs.Printed as P
use Rattle.input.proofs.Fronts.{first, first_single, first_then}

-- the first line, and the lines behind it
split : (s : List ℕ) (l : List ℕ) (ls : List (List ℕ)) → lines s ≡ l ∷ ls → (l ≡ first s) × (ls ≡ lines (drop (length l) s)) × (0 < length l) × (length l ≤ length s) × (lines l ≡ l ∷ [])
unfolding lines head_d line_end
split [] l ls e = absurd (nil≢cons e)
split (x ∷ s) l ls e =
    let f : l ≡ first (x ∷ s) = sym (ap (λ (k : List (List ℕ)). head_d k []) e) in
    let z : 0 + length (first (x ∷ s)) ≡ length l = omega (arith, ap length f) in (
      f,
      rw (← z) (tail-eq_of_cons-eq (sym e ∙ line_at (x ∷ s) 0 (omega arith))),
      omega (arith, z, line_end_after (x ∷ s) 0 (omega arith)),
      omega (arith, z, line_end_inside (x ∷ s) 0 (omega arith)),
      rw f (first_single x s),
    )

not_none : (x : List ℕ) (b c : List (List ℕ)) → [] ≡ c ++ (x ∷ b) → ⊥
not_none x b [] f = nil≢cons f
not_none x b (y ∷ c) f = nil≢cons f

-- lines in front of others are the lines of their text
front_lines : (a : List (List ℕ)) (s : List ℕ) (x : List ℕ) (b : List (List ℕ)) → lines s ≡ a ++ (x ∷ b) → lines (flatten a) ≡ a
unfolding lines flatten
front_lines [] s x b e = refl
front_lines (l ∷ a) s x b e =
    let w = split s l (a ++ (x ∷ b)) e in
    let p : lines (first s ++ flatten a) ≡ first s ∷ lines (flatten a) = first_then s (omega (arith, ap length w.0, inside (leb (length s) (length l)) refl w.1)) (flatten a) in
    rw w.0 (p ∙ ap (λ (k : List (List ℕ)). first s ∷ k) (front_lines a (drop (length l) s) x b (sym w.1)))
  where
    inside : (z : Bool) → leb (length s) (length l) ≡ z → a ++ (x ∷ b) ≡ lines (drop (length l) s) → length l < length s
    inside true h e = absurd (not_none x b a (sym (no_lines s (length l) (leb-true (length s) (length l) h)) ∙ sym e))
    inside false h e = leb-false (length s) (length l) h

-- each line is one line
pub singles : (n : ℕ) (s : List ℕ) → length s ≤ n → Each (λ (l : List ℕ). lines l ≡ l ∷ []) (lines s)
unfolding lines
singles zero [] h = tt
singles zero (x ∷ s) h = absurd (omega arith)
singles (suc n) s h = go (lines s) refl (singles n)
  where
    go : (k : List (List ℕ)) → lines s ≡ k → ((t : List ℕ) → length t ≤ n → Each (λ (l : List ℕ). lines l ≡ l ∷ []) (lines t)) → Each (λ (l : List ℕ). lines l ≡ l ∷ []) k
    go [] e ih = tt
    go (l ∷ ls) e ih =
        let w = split s l ls e in
        (w.4, rw w.1 (ih (drop (length l) s) (rw length-drop (omega (arith, w.2)))))

-- the scan met all lines
abbrev NonEmpty : List (List ℕ) → Type 0
NonEmpty = Each (λ (l : List ℕ). 0 < length l)

none_total : (ls : List (List ℕ)) → NonEmpty ls → total ls ≡ 0 → ls ≡ []
unfolding total
none_total [] h e = refl
none_total (l ∷ ls) h e = absurd (omega (arith, h.0))

met_all : (n : ℕ) (ls : List (List ℕ)) → NonEmpty ls → total (through (take n ls)) ≡ total ls → through (take n ls) ≡ ls
unfolding through total
met_all zero ls h e = sym (none_total ls h (sym e))
met_all (suc n) [] h e = refl
met_all (suc n) (l ∷ ls) h e = go (is_found (columns_of l)) e (met_all n ls h.1)
  where
    go : (z : Bool) → total (cond z (l ∷ []) (l ∷ through (take n ls))) ≡ length l + total ls → (total (through (take n ls)) ≡ total ls → through (take n ls) ≡ ls)
        → cond z (l ∷ []) (l ∷ through (take n ls)) ≡ l ∷ ls
    go true e ih = rw (none_total ls h.1 (omega arith))
    go false e ih = rw (ih (omega arith))

-- lines in front of the last of them: no column header
met_front : (n : ℕ) (a : List (List ℕ)) (x : List ℕ) (b : List (List ℕ)) → through (take n (a ++ (x ∷ b))) ≡ a ++ (x ∷ b)
    → (through (take n a) ≡ a) × (last_columns a ≡ None) × (length a < n)
unfolding through last_columns
met_front zero [] x b e = absurd (nil≢cons e)
met_front zero (l ∷ a) x b e = absurd (nil≢cons e)
met_front (suc n) [] x b e = (refl, refl, omega arith)
met_front (suc n) (l ∷ a) x b e = go (columns_of l) refl e (met_front n a x b)
  where
    go : (k : Option Columns) → columns_of l ≡ k → cond (is_found k) (l ∷ []) (l ∷ through (take n (a ++ (x ∷ b)))) ≡ l ∷ (a ++ (x ∷ b))
        → (through (take n (a ++ (x ∷ b))) ≡ a ++ (x ∷ b) → (through (take n a) ≡ a) × (last_columns a ≡ None) × (length a < n))
        → (cond (is_found k) (l ∷ []) (l ∷ through (take n a)) ≡ l ∷ a) × (last_columns (l ∷ a) ≡ None) × (suc (length a) < suc n)
    go (Some c) f e ih = absurd (not_none x b a (tail-eq_of_cons-eq e))
    go None f e ih = let w = ih (tail-eq_of_cons-eq e) in (rw w.0, last_passed l a f ∙ w.1, omega (arith, w.2))

readable_front : (n : ℕ) (a b : List (List ℕ)) → unreadable_line n (a ++ b) ≡ None → unreadable_line n a ≡ None
unfolding unreadable_line
readable_front n [] b e = refl
readable_front n (l ∷ a) b e = go (readable l) e (readable_front (n + 1) a b)
  where
    go : (z : Bool) → cond z (unreadable_line (n + 1) (a ++ b)) (Some (n + 1)) ≡ None → (unreadable_line (n + 1) (a ++ b) ≡ None → unreadable_line (n + 1) a ≡ None)
        → cond z (unreadable_line (n + 1) a) (Some (n + 1)) ≡ None
    go true e ih = ih e
    go false e ih = e

total_flatten : (ls : List (List ℕ)) → total ls ≡ length (flatten ls)
unfolding total flatten
total_flatten [] = refl
total_flatten (l ∷ ls) = rw (total_flatten ls) (sym (length-append l (flatten ls)))

single_some : (ls : List (List ℕ)) → Each (λ (l : List ℕ). lines l ≡ l ∷ []) ls → NonEmpty ls
unfolding lines
single_some [] h = tt
single_some ([] ∷ ls) h = absurd (nil≢cons h.0)
single_some ((b ∷ l) ∷ ls) h = (omega arith, single_some ls h.1)

-- what opening says where it accepts
abbrev position_of : Opening → ℕ
position_of (opened σ) = σ.position
position_of (notOpened number line) = 0

accepts : (t : Float) (σ : State) (b : Bool) (u : Option ℕ) (p : Preamble) (k : Option Columns) (i : ℕ) → cond b (open_with t (answer u p k i)) (notOpened 4 0) ≡ opened σ
    → (b ≡ true) × (u ≡ None) × (σ.position ≡ i)
accepts t σ false u p k i e = let z : ◌≡◌ {A = ℕ} 0 1 = cc in absurd (omega arith)
accepts t σ true (Some n) p k i e = let z : ◌≡◌ {A = ℕ} 0 1 = cc in absurd (omega arith)
accepts t σ true None p None i e = let z : ◌≡◌ {A = ℕ} 0 1 = cc in absurd (omega arith)
accepts t σ true None p (Some c) i e = (refl, refl, sym (ap position_of e))

no_columns : (t : Float) (σ : State) (b : Bool) (u : Option ℕ) (p : Preamble) (i : ℕ) → cond b (open_with t (answer u p None i)) (notOpened 4 0) ≡ opened σ → ⊥
no_columns t σ false u p i e = let z : ◌≡◌ {A = ℕ} 0 1 = cc in absurd (omega arith)
no_columns t σ true (Some n) p i e = let z : ◌≡◌ {A = ℕ} 0 1 = cc in absurd (omega arith)
no_columns t σ true None p i e = let z : ◌≡◌ {A = ℕ} 0 1 = cc in absurd (omega arith)

-- one line more
joined : (c : List (List ℕ)) (x : List ℕ) → flatten c ++ x ≡ flatten (c ++ (x ∷ []))
unfolding flatten
joined c x = sym (flatten_append c (x ∷ []) ∙ rw append-nil)

counted : (c : List (List ℕ)) (x : List ℕ) → length c < 64 → after (length c) ≡ length (c ++ (x ∷ []))
counted c x h = let z : length c + 1 < 2 ^ 64 = omega arith in rw (mod-eq_of_lt z) (sym (length-append c (x ∷ [])))

module _ (t : Float) (h : List ℕ) (σ : State) (a : Accepted t h σ) where
  facts : (is_timestamp t ≡ true) × (unreadable_line 0 (through (take 64 (lines h))) ≡ None) × (σ.position ≡ 0 + total (through (take 64 (lines h))))
  unfolding open_of header header_from
  facts =
      let met = through (take 64 (lines h)) in
      accepts t σ (is_timestamp t) (unreadable_line 0 met) (preamble_of missing met) (last_columns met) (0 + total met) a.opens

  -- it has lines
  pub not_empty : lines h ≡ [] → ⊥
  unfolding open_of header header_from through last_columns
  not_empty e =
      no_columns t σ (is_timestamp t) (unreadable_line 0 []) (preamble_of missing []) (0 + total [])
      (ap (λ (k : List (List ℕ)). cond (is_timestamp t) (open_with t (header_from 0 missing 0 (through (take 64 k)))) (notOpened 4 0)) (sym e) ∙ a.opens)

  all : through (take 64 (lines h)) ≡ lines h
  all =
      met_all 64 (lines h) (single_some (lines h) (singles (length h) h (omega arith)))
      (omega (arith, facts.2, a.whole, total_flatten (lines h), ap length (flatten_lines h)))

  -- lines in front of the last
  not_yet : (c : List (List ℕ)) (x : List ℕ) (b : List (List ℕ)) → lines h ≡ c ++ (x ∷ b) → (open_of t (flatten c) ≡ notOpened 2 0) × (length c < 64)
  unfolding open_of header header_from
  not_yet c x b e =
      let m : through (take 64 (c ++ (x ∷ b))) ≡ c ++ (x ∷ b) = rw (← e) all in
      let w = met_front 64 c x b m in
      let r : unreadable_line 0 (c ++ (x ∷ b)) ≡ None = rw (← m, ← e) facts.1 in
      (rw (facts.0, front_lines c h x b e, w.0, readable_front 0 c (x ∷ b) r, w.1), w.2)

  -- the header's lines one by one, and then the table is open
  module _ (fits : length h ≤ 65536) (ls : List (List ℕ)) where
    short : (c : List (List ℕ)) (x : List ℕ) (b : List (List ℕ)) → lines h ≡ c ++ (x ∷ b) → P.too_long (flatten c ++ x) ≡ false
    unfolding flatten
    short c x b e =
        le-ltb 65536 (length (flatten c ++ x)) (omega (arith, fits, ap length (flatten_lines h), ap (λ (k : List (List ℕ)). length (flatten k)) e, ap length (flatten_append c (x ∷ b)), length-append (flatten c) (x ++ flatten b), length-append x (flatten b), length-append (flatten c) x))

    pub header_printed : (b c : List (List ℕ)) (x : List ℕ) → lines h ≡ c ++ (x ∷ b)
        → printed_from (P.header t (length c) (flatten c)) ((x ∷ b) ++ ls) ≡ header_text ++ feed ++ printed_from (body σ (length (lines h))) ls
    unfolding printed_from on_line
    header_printed [] c x e =
        let whole : flatten c ++ x ≡ h = joined c x ∙ ap flatten (sym e) ∙ flatten_lines h in
        let n : after (length c) ≡ length (lines h) = counted c x (not_yet c x [] e).1 ∙ ap length (sym e) in
        rw (short c x [] e) (rw (whole, a.opens, n))
    header_printed (y ∷ b) c x e =
        let f : lines h ≡ (c ++ (x ∷ [])) ++ (y ∷ b) = e ∙ sym (append_assoc c (x ∷ []) (y ∷ b)) in
        let w = not_yet (c ++ (x ∷ [])) y b f in
        rw (short c x (y ∷ b) e) (rw (joined c x, counted c x (not_yet c x (y ∷ b) e).1, w.0) (rw (lt-ltb (length (c ++ (x ∷ []))) 64 w.1) (header_printed b (c ++ (x ∷ [])) y f)))
