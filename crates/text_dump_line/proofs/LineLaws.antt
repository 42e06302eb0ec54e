-- Laws of the columns of a line, and of what it says by them.
use Rattle.std.specs.Prelude.{Option, Some, None}
use Prim.Native.Nat.{ℕ, ◌-◌, ◌≤◌, ◌<◌}
use mathlib.Core.Path.{◌≡◌, refl, sym, ap, ◌∙◌}
use mathlib.Core.Bool.{Bool, true, false, cond, not, ◌&&◌, false≢true}
use mathlib.Core.List.{List, [], ◌∷◌, ◌++◌, flatten}
use native.Mathlib.Omega.{arith}
use lib.ListN.{length, get_or, take, drop, length-drop}
use lib.Seq.{take_all, take_at, drop-append-le}
use lib.Dec.{leb, ltb, eqb}
use borrow.Author.Tests.{le-leb, lt-leb, leb-true, ltb-true, eqb-true, eqb-false, ne_eqb, not-true, not-false}
use Rattle.utf8.specs.Utf8.{is_one, within, all, chars, readable}
use Rattle.utf8.specs.Edge.{is_edge, has_slice}
use Rattle.scan.specs.Ascii.{ascii}
use Rattle.scan.specs.Search.{equal, starts_with}
use Rattle.text.specs.White.{is_space, trim, trim_start, trim_end}
use Rattle.utf8.proofs.TestLaws.{both}
use Rattle.utf8.proofs.EdgeLaws.{ascii_slice}
use Rattle.text.proofs.TrimLaws.{dropped, trim_end_part, trim_end_all}
use Rattle.text.proofs.WhiteLaws.{front_visible, start_stop}
use Rattle.decimal.specs.Decimal.{read_u32}
use Rattle.network.specs.Address.{read_address}
use Rattle.network.specs.Prefix.{read_prefix}
use Rattle.network.specs.declared.IpAddr.{IpAddr}
use Rattle.network.specs.declared.NetworkPrefix.{NetworkPrefix}
use Rattle.columns.specs.Columns.{are_rising}
use Rattle.columns.specs.declared.Columns.{Columns}
use Rattle.path_text.specs.Path.{origin_of}
use Rattle.text_dump_line.specs.Line.{slice, column, displayed, prefix_as, prefix_text, path_start, entry_of, path_of, route_to, route_of, any_route, wrapped_of, line_from, line_of}
use Rattle.text_dump_line.specs.Whole.{Whole}
use Rattle.elem.specs.declared.Origin.{Origin}
use Rattle.text_dump_line.specs.declared.PrefixText.{PrefixText}
use Rattle.text_dump_line.specs.declared.PrefixText.TheVariants.{Blank, Invalid, Valid}
use Rattle.text_dump_line.specs.declared.RouteEntry.{RouteEntry}
use Rattle.text_dump_line.specs.declared.Line.TheVariants.{Unreadable, Passed, Wrapped, Route as RouteLine}

-- slices
module _ (t : List ℕ) (a b : ℕ) where
  module _ (e : has_slice t a b ≡ true) where
    ends : (leb a b ≡ true) × (leb b (length t) ≡ true)
    ends = both (leb a b) (leb b (length t)) (both (leb a b && leb b (length t)) (is_edge t a) (both (leb a b && leb b (length t) && is_edge t a) (is_edge t b) e).0).0

    pub slice_order : a ≤ b
    slice_order = leb-true a b ends.0

    pub slice_inside : b ≤ length t
    slice_inside = leb-true b (length t) ends.1

    pub slice_there : take (b - a) (drop a t) ≡ slice a b t
    unfolding slice
    slice_there = rw e

  pub slice_missing : has_slice t a b ≡ false → [] ≡ slice a b t
  unfolding slice
  slice_missing e = rw e

-- an ASCII line has a slice between any two of its places, so that of its columns only the order is
-- tested
rising_order : (c : Columns) → are_rising c ≡ true → (c.next_hop < c.metric) × (c.metric < c.local_pref) × (c.local_pref < c.weight) × (c.weight < c.path)
rising_order c e =
    let x = both (ltb c.next_hop c.metric && ltb c.metric c.local_pref && ltb c.local_pref c.weight) (ltb c.weight c.path) e in
    let y = both (ltb c.next_hop c.metric && ltb c.metric c.local_pref) (ltb c.local_pref c.weight) x.0 in
    let z = both (ltb c.next_hop c.metric) (ltb c.metric c.local_pref) y.0 in
    (ltb-true c.next_hop c.metric z.0, ltb-true c.metric c.local_pref z.1, ltb-true c.local_pref c.weight y.1, ltb-true c.weight c.path x.1)

pub no_whole : (t : List ℕ) (c : Columns) → false ≡ true → Whole c t
no_whole t c e = absurd (false≢true e)

pub ascii_whole : (t : List ℕ) (c : Columns) (r : Bool) → all is_one t ≡ true → r ≡ are_rising c → 3 ≤ c.next_hop → c.path ≤ length t → r ≡ true → Whole c t
ascii_whole t c r h q first last f = go first (rising_order c (sym q ∙ f)) last h
  where
    go : 3 ≤ c.next_hop → (c.next_hop < c.metric) × (c.metric < c.local_pref) × (c.local_pref < c.weight) × (c.weight < c.path)
        → c.path ≤ length t → all is_one t ≡ true → Whole c t
    go first rise last h = record {
      prefix_slice = ascii_slice t 3 c.next_hop h (omega arith) (omega arith);
      hop_slice = ascii_slice t c.next_hop c.metric h (omega arith) (omega arith);
      metric_slice = ascii_slice t c.metric c.local_pref h (omega arith) (omega arith);
      pref_slice = ascii_slice t c.local_pref c.weight h (omega arith) (omega arith);
      path_slice = ascii_slice t c.path (length t) h (omega arith) (omega arith);
    }

-- the end of an ASCII line is trimmed
pub trimmed_ascii : (s t : List ℕ) (z : Bool) → z ≡ all is_one s → t ≡ trim_end s → z ≡ true → all is_one t ≡ true
trimmed_ascii s t z q e f = ap (all is_one) e ∙ trim_end_all s is_one (sym q ∙ f)

-- the prefix text of a column
no_text : (s : List ℕ) → length s ≡ 0 → Blank ≡ prefix_text s
unfolding prefix_text
no_text [] h = refl
no_text (b ∷ s) h = absurd (omega arith)

some_text : (s : List ℕ) → (length s ≡ 0 → ⊥) → prefix_text s ≡ prefix_as (read_prefix s)
unfolding prefix_text
some_text [] h = absurd (h refl)
some_text (b ∷ s) h = refl

-- what is read of a column, by what is read of its slice
module _ (t : List ℕ) (a b : ℕ) (x : List ℕ) (e : x ≡ slice a b t) where
  trimmed : trim x ≡ column a b t
  unfolding column
  trimmed = rw e

  pub address_read : (r : Option IpAddr) → r ≡ read_address (trim x) → r ≡ read_address (column a b t)
  address_read r f = f ∙ ap read_address trimmed

  pub number_read : (r : Option ℕ) → r ≡ read_u32 (trim x) → r ≡ read_u32 (column a b t)
  number_read r f = f ∙ ap read_u32 trimmed

  pub prefix_read : (r : PrefixText) → r ≡ prefix_text (trim x) → r ≡ prefix_text (column a b t)
  prefix_read r f = f ∙ ap prefix_text trimmed

  pub wrapped_read : (r : Option NetworkPrefix) → r ≡ read_prefix (trim x) → r ≡ read_prefix (column a b t)
  wrapped_read r f = f ∙ ap read_prefix trimmed

-- the prefix text of a column, by its trimmed text
module _ (s : List ℕ) (z : Bool) (q : z ≡ eqb (length s) 0) where
  pub blank : z ≡ true → Blank ≡ prefix_text s
  blank f = no_text s (eqb-true (length s) 0 (sym q ∙ f))

  module _ (n : z ≡ false) (r : Option NetworkPrefix) (h : r ≡ read_prefix s) where
    text : prefix_text s ≡ prefix_as r
    text = some_text s (eqb-false (length s) 0 (sym q ∙ n)) ∙ ap prefix_as (sym h)

    pub valid : (p : NetworkPrefix) → r ≡ Some p → Valid p ≡ prefix_text s
    valid p f = sym (text ∙ ap prefix_as f)

    pub invalid : r ≡ None → Invalid ≡ prefix_text s
    invalid f = sym (text ∙ ap prefix_as f)

pub starts_displayed : (t x : List ℕ) (r : Bool) → x ≡ trim_start t → r ≡ starts_with x (ascii "Displayed") → r ≡ displayed t
unfolding displayed
starts_displayed t x r e f = rw (f, e)

-- a visible byte at the front is not trimmed
pub starts_otherwise : (t : List ℕ) → 0 < length t → (get_or t 0 0 ≡ 68 → ⊥) → within 0x21 0x7E (get_or t 0 0) ≡ true → false ≡ displayed t
unfolding displayed equal
starts_otherwise t h n v = go t h n ∙ ap (λ x. starts_with x (ascii "Displayed")) (sym (start_stop t 0 (front_visible t h v) refl))
  where
    go : (t : List ℕ) → 0 < length t → (get_or t 0 0 ≡ 68 → ⊥) → false ≡ starts_with t (ascii "Displayed")
    go [] h n = absurd (omega arith)
    go (b ∷ t) h n = simp (ne_eqb b 68 n)

-- the path's part
module _ (t : List ℕ) (path : ℕ) where
  pub path_there : has_slice t path (length t) ≡ true → path ≡ path_start path t
  unfolding path_start
  path_there e = rw e

  pub path_missing : has_slice t path (length t) ≡ false → length t ≡ path_start path t
  unfolding path_start
  path_missing e = rw e

start_inside : (t : List ℕ) (path : ℕ) → path_start path t ≤ length t
unfolding path_start
start_inside t path = go (has_slice t path (length t)) refl
  where
    go : (z : Bool) → has_slice t path (length t) ≡ z → cond z path (length t) ≤ length t
    go true e = slice_order t path (length t) e
    go false e = omega arith

pub part_inside : (t : List ℕ) (path k : ℕ) → k ≡ path_start path t → k ≤ length t
part_inside t path k e = omega (arith, start_inside t path)

-- what a route carries
pub entry : (t : List ℕ) (c : Columns) (hop : IpAddr) (m l : Option ℕ) (k : ℕ) (o : Option Origin)
    → m ≡ read_u32 (column c.metric c.local_pref t) → l ≡ read_u32 (column c.local_pref c.weight t)
    → k ≡ path_start c.path t → o ≡ origin_of (take (length t - k) (drop k t))
    → record { next_hop = hop; metric = m; local_pref = l; path_start = k; path_end = length t; origin = o } ≡ entry_of c hop t
entry t c hop m l k o em el ek eo =
    let p : o ≡ origin_of (drop k t) = eo ∙ ap origin_of (take_all (length t - k) (drop k t) (simp length-drop (omega arith))) in
    rw (em, el, p, ek)

-- the path's part of a line is that of the trimmed line: the slice from Path on
pub path_part : (s : List ℕ) (c : Columns) (hop : IpAddr) → path_of (entry_of c hop (trim_end s)) s ≡ drop (path_start c.path (trim_end s)) (trim_end s)
path_part s c hop = go (trim_end s) (path_start c.path (trim_end s)) (flatten (dropped is_space (chars s))) (start_inside (trim_end s) c.path) (sym (trim_end_part s))
  where
    go : (t : List ℕ) (k : ℕ) (r : List ℕ) → k ≤ length t → s ≡ t ++ r → take (length t - k) (drop k s) ≡ drop k t
    go t k r h e = rw (e, drop-append-le) (take_at (drop k t) r (length t - k) (length-drop k t))

-- a route
module _ (t : List ℕ) (c : Columns) (d : Bool) (qd : d ≡ displayed t) where
  pub is_displayed : d ≡ true → None ≡ route_of c t
  unfolding route_of
  is_displayed f = rw (← qd, f)

  module _ (n : d ≡ false) (r : Option IpAddr) (q : r ≡ read_address (column c.next_hop c.metric t)) where
    by_address : route_of c t ≡ route_to c t r
    unfolding route_of
    by_address = rw (← qd, n) (ap (route_to c t) (sym q))

    pub no_address : r ≡ None → None ≡ route_of c t
    no_address f = sym (by_address ∙ rw f)

pub trimmed_route : (s : List ℕ) (c : Columns) (t : List ℕ) (r : Option (PrefixText × RouteEntry)) → t ≡ trim_end s → r ≡ route_of c t → r ≡ route_of c (trim_end s)
trimmed_route s c t r e f = rw (f, e)

-- a wrapped prefix
pub too_long_lem : (t : List ℕ) (n : ℕ) → n < length t → None ≡ wrapped_of n t
unfolding wrapped_of
too_long_lem t n h = rw (lt-leb (length t) n h)

pub wrapped : (t : List ℕ) (n : ℕ) → length t ≤ n → (x : List ℕ) → x ≡ slice 3 (length t) t → (r : Option NetworkPrefix) → r ≡ read_prefix (trim x) → r ≡ wrapped_of n t
unfolding wrapped_of
wrapped t n h x e r f = rw (le-leb (length t) n h) (wrapped_read t 3 (length t) x e r f)

-- the whole line
module _ (s : List ℕ) (c : Columns) (b : Bool) (qb : b ≡ readable s) where
  pub unreadable_line_lem : not b ≡ true → Unreadable ≡ line_of c s
  unfolding line_of
  unreadable_line_lem f = rw (← qb, not-true b f)

  module _ (n : not b ≡ false) (t : List ℕ) (qt : t ≡ trim_end s) (r : Option (PrefixText × RouteEntry)) (q : r ≡ any_route c t) where
    readable_line : line_of c s ≡ line_from c t
    unfolding line_of
    readable_line = rw (← qb, not-false b n, qt)

    pub route_line : (p : PrefixText) (e : RouteEntry) → r ≡ Some (p, e) → RouteLine e p ≡ line_of c s
    route_line p e f = sym (readable_line ∙ rw (← q, f))

    module _ (m : r ≡ None) (w : Option NetworkPrefix) (qw : w ≡ wrapped_of c.next_hop t) where
      pub wrapped_line : (p : NetworkPrefix) → w ≡ Some p → Wrapped p ≡ line_of c s
      wrapped_line p f = sym (readable_line ∙ rw (← q, m, ← qw, f))

      pub passed_line : w ≡ None → Passed ≡ line_of c s
      passed_line f = sym (readable_line ∙ rw (← q, m, ← qw, f))

-- for is_whole
pub ruleset whole_laws = (no_whole, ascii_whole)

-- for slice
pub ruleset slice_laws = (slice_order, slice_inside, slice_there, slice_missing)

-- for prefix_text
pub ruleset prefix_text_laws = (blank, valid, invalid)

-- for is_displayed
pub ruleset displayed_laws = (starts_displayed, starts_otherwise)

-- for path_start
pub ruleset path_start_laws = (path_there, path_missing)

-- for entry_of
pub ruleset entry_laws = (part_inside, entry)

-- for route_in
pub ruleset route_laws = (is_displayed, no_address)

-- for parse_wrapped_prefix_line
pub ruleset wrapped_laws = (too_long_lem, wrapped)

-- for line_of
pub ruleset line_laws = (trimmed_ascii, unreadable_line_lem, route_line, wrapped_line, passed_line)
