-- Laws of the preamble's lines.
use Rattle.std.specs.Prelude.{Option, Some, None}
use Prim.Native.Nat.{ℕ, ◌+◌, ◌-◌, ◌≤◌}
use mathlib.Core.Path.{◌≡◌, sym, ◌∙◌}
use mathlib.Core.Bool.{Bool, true, false}
use mathlib.Core.List.{List}
use native.Mathlib.Omega.{arith}
use lib.ListN.{length, take, drop, length-take, length-drop}
use lib.Seq.{take_all}
use lib.Dec.{eqb}
use lib.Pointwise.{pointwise}
use Rattle.scan.specs.Ascii.{ascii}
use Rattle.scan.specs.Search.{starts_with, find_in}
use Rattle.scan.proofs.SearchLaws.{equal_slices, find_first}
use Rattle.text.specs.White.{trim}
use Rattle.text_dump_header.specs.Preamble.{strip, before, behind, up_to, marked, version_text, router_in, router_text, local_as_text, reads, preamble_line}
use Rattle.text_dump_header.specs.declared.Preamble.{Preamble}
use Rattle.decimal.specs.Decimal.{read_u32, read_u64}
use Rattle.network.specs.Address.{read_address}
use Rattle.network.specs.declared.IpAddr.{IpAddr}

-- where a text is found, it lies inside
module _ (s p : List ℕ) (r : Option ℕ) (q : r ≡ find_in s p) where
  pub before_none : r ≡ None → before p s ≡ None
  unfolding before
  before_none f = rw (← q, f)

  pub behind_none : r ≡ None → behind p s ≡ None
  unfolding behind
  behind_none f = rw (← q, f)

  module _ (k : ℕ) (f : r ≡ Some k) where
    pub found_end : k + length p ≤ length s
    found_end = (find_first s p k (sym q ∙ f)).inside

    pub found_start : k ≤ length s
    found_start = omega (arith, found_end)

    pub found_size : length (take k s) ≡ k
    found_size = simp length-take (omega (arith, found_start))

    pub before_some : before p s ≡ Some (take k s)
    unfolding before
    before_some = rw (← q, f)

    pub behind_some : (n : ℕ) → n ≡ k + length p → behind p s ≡ Some (take (length s - n) (drop n s))
    unfolding behind
    behind_some n e =
        let z : length (drop n s) ≤ length s - n = simp length-drop (omega arith) in
        rw (take_all (length s - n) (drop n s) z) (rw (← q, f, e))

pub ruleset before_laws = (found_start, found_size, before_some, before_none)

pub ruleset behind_laws = (found_end, found_start, behind_some, behind_none)

-- the text behind a mark
module _ (mark s : List ℕ) where
  pub marked_none : behind mark s ≡ None → marked mark s ≡ None
  unfolding marked
  marked_none e = rw e

  module _ (x : List ℕ) (e : behind mark s ≡ Some x) where
    pub marked_all : before mark x ≡ None → marked mark s ≡ Some x
    unfolding marked up_to
    marked_all f = rw (e, f)

    pub marked_front : (y : List ℕ) → before mark x ≡ Some y → marked mark s ≡ Some y
    unfolding marked up_to
    marked_front y f = rw (e, f)

pub ruleset marked_laws = (marked_none, marked_all, marked_front)

-- what stands behind the start, as the library strips it
abbrev start : List ℕ
start = ascii "BGP table version is "

strip_none : (p t : List ℕ) → pointwise eqb (take (length p) t) p ≡ false → strip p t ≡ None
unfolding strip
strip_none p t e = rw (sym (equal_slices (take (length p) t) p) ∙ e)

strip_some : (p t : List ℕ) → pointwise eqb (take (length p) t) p ≡ true → strip p t ≡ Some (drop (length p) t)
unfolding strip
strip_some p t e = rw (sym (equal_slices (take (length p) t) p) ∙ e)

module _ (t : List ℕ) where
  module _ (e : pointwise eqb (take 21 t) start ≡ false) where
    pub version_none : version_text t ≡ None
    unfolding version_text
    version_none = rw (strip_none start t e)

    pub router_none : router_text t ≡ None
    unfolding router_text
    router_none = rw (strip_none start t e)

  module _ (e : pointwise eqb (take 21 t) start ≡ true) (x : List ℕ) (q : x ≡ drop 21 t) where
    pub version_some : version_text t ≡ before (ascii ",") x
    unfolding version_text
    version_some = rw (strip_some start t e, q)

    pub router_no_comma : behind (ascii ",") x ≡ None → router_text t ≡ None
    unfolding router_text
    router_no_comma f = rw (strip_some start t e, ← q, f)

    pub router_some : (y : List ℕ) → behind (ascii ",") x ≡ Some y → router_text t ≡ router_in y
    unfolding router_text
    router_some y f = rw (strip_some start t e, ← q, f)

-- the text of the router's address, and that of the local AS
pub id_none : (s : List ℕ) → marked (ascii "local router ID is ") s ≡ None → router_in s ≡ None
unfolding router_in
id_none s e = rw e

pub id_some : (s x : List ℕ) → marked (ascii "local router ID is ") s ≡ Some x → router_in s ≡ before (ascii ",") x
unfolding router_in
id_some s x e = rw e

module _ (t : List ℕ) (b : Bool) (q : b ≡ starts_with t (ascii "Default local pref")) where
  pub as_none : b ≡ false → local_as_text t ≡ None
  unfolding local_as_text
  as_none f = rw (← q, f)

  pub as_some : b ≡ true → local_as_text t ≡ marked (ascii "local AS ") t
  unfolding local_as_text
  as_some f = rw (← q, f)

-- the three together
pub three : (t : List ℕ) (p : Preamble) (v : Option ℕ) (a : Option IpAddr) (n : Option ℕ) → v ≡ reads read_u64 (version_text t) p.table_version
    → a ≡ reads read_address (router_text t) p.router_id → n ≡ reads read_u32 (local_as_text t) p.local_as
    → record { table_version = v; router_id = a; local_as = n } ≡ preamble_line t p
unfolding preamble_line
three t p v a n e f g = rw (e, f, g)

pub reads_none : {A : Type 0} (read : List ℕ → A) (text : Option (List ℕ)) (old : A) → text ≡ None → old ≡ reads read text old
unfolding reads
reads_none read text old e = rw e

pub reads_some : {A : Type 0} (read : List ℕ → A) (text : Option (List ℕ)) (x : List ℕ) (old : A) → text ≡ Some x → read (trim x) ≡ reads read text old
unfolding reads
reads_some read text x old e = rw e

pub ruleset preamble_laws = (three, reads_none, reads_some)
