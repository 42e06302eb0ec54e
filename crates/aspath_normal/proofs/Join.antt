-- Paths normalised before and after they are joined.
--     coalesce_join    coalescing two paths before joining them makes no difference to the joined path coalesced
--     normal_join      nor does normalising them
use mathlib.Core.Path.{◌≡◌, refl, sym, ap, ap₂, ◌∙◌}
use mathlib.Core.List.{List, [], ◌∷◌, ◌++◌, map, append_assoc, append-nil}
use mathlib.Core.Bool.{Bool, true, false, cond, ◌&&◌, and-false}
use Rattle.std.proofs.Common.{Option, Some, None}
use Prim.Native.Nat.{ℕ}
use native.Mathlib.Omega.{arith}
use lib.ListN.{length, length-append}
use lib.Dec.{eqb}
use borrow.Author.Tests.{eqb-true, eqb-false, ne_eqb}
use Rattle.sort.proofs.Dedup.{dedup_twice}
use Rattle.aspath.specs.Record.{Segment}
use Rattle.aspath.proofs.Lists.{and_both}
use Rattle.aspath_normal.specs.Normal.{is_sequence, merge_by, scan_from, scan, empty, append, coalesce, dedup_numbers, dedup_segment, dedup_coalesce}
use Rattle.aspath_normal.proofs.Scan.{scan_one, scan_two, Stable, merge_stable, scan_twice}
use Rattle.aspath_normal.proofs.Calls.{no_numbers}
use Rattle.aspath_normal.proofs.Steps.{scan_deduped, once_is_enough}
use Rattle.aspath_normal.proofs.Normal.{All, Known, normal_segments, all_same}

-- the scan of a joined list, its first part scanned before
module _ {X : Type 0} (m : X → X → Option X) (s : Stable m) where
  stops : (x y : X) (a b : List X) → m x y ≡ None → scan_from m x (scan_from m y a ++ b) ≡ x ∷ scan m (scan_from m y a ++ b)
  unfolding scan_from scan
  stops x y [] b h = scan_two m x y b h
  stops x y (w ∷ a) b h = go (m y w) refl (λ z. stops x z a b)
    where
      go : (o : Option X) → m y w ≡ o → ((z : X) → m x z ≡ None → scan_from m x (scan_from m z a ++ b) ≡ x ∷ scan m (scan_from m z a ++ b))
          → scan_from m x (scan_from m y (w ∷ a) ++ b) ≡ x ∷ scan m (scan_from m y (w ∷ a) ++ b)
      go (Some z) e f = rw (scan_one m y w a z e) (f z (s x y w z h e))
      go None e f = rw (scan_two m y w a e) (scan_two m x y (scan_from m w a ++ b) h)

  first_from_lem : (x : X) (a b : List X) → scan m (scan_from m x a ++ b) ≡ scan_from m x (a ++ b)
  unfolding scan_from scan
  first_from_lem x [] b = refl
  first_from_lem x (y ∷ a) b = go (m x y) refl (λ z. first_from_lem z a b)
    where
      go : (o : Option X) → m x y ≡ o → ((z : X) → scan m (scan_from m z a ++ b) ≡ scan_from m z (a ++ b))
          → scan m (scan_from m x (y ∷ a) ++ b) ≡ scan_from m x (y ∷ (a ++ b))
      go (Some z) e f = rw (scan_one m x y a z e, scan_one m x y (a ++ b) z e) (f z)
      go None e f = rw (scan_two m x y a e, scan_two m x y (a ++ b) e) (stops x y a b e ∙ ap (λ t. x ∷ t) (f y))

  pub scan_first : (a b : List X) → scan m (scan m a ++ b) ≡ scan m (a ++ b)
  unfolding scan
  scan_first [] b = refl
  scan_first (x ∷ a) b = first_from_lem x a b

-- and its second part, where a scan may start with one that was scanned
module _ {X : Type 0} (m : X → X → Option X) (t : (b : List X) (x y : X) → scan_from m x (scan_from m y b) ≡ scan_from m x (y ∷ b)) where
  second_from : (x : X) (a b : List X) → scan_from m x (a ++ scan m b) ≡ scan_from m x (a ++ b)
  unfolding scan_from scan
  second_from x [] [] = refl
  second_from x [] (y ∷ b) = t b x y
  second_from x (y ∷ a) b = go (m x y) refl (λ z. second_from z a b)
    where
      go : (o : Option X) → m x y ≡ o → ((z : X) → scan_from m z (a ++ scan m b) ≡ scan_from m z (a ++ b))
          → scan_from m x (y ∷ (a ++ scan m b)) ≡ scan_from m x (y ∷ (a ++ b))
      go (Some z) e f = rw (scan_one m x y (a ++ scan m b) z e, scan_one m x y (a ++ b) z e) (f z)
      go None e f = rw (scan_two m x y (a ++ scan m b) e, scan_two m x y (a ++ b) e) (ap (λ l. x ∷ l) (f y))

-- an empty sequence
abbrev blank : Segment → Bool
blank x = is_sequence x.kind && empty x

abbrev alike : Segment → Segment → Bool
alike x y = is_sequence x.kind && eqb x.kind y.kind

abbrev merge : Segment → Segment → Option Segment
merge = merge_by (λ x. x.kind) empty append

-- joining with an empty sequence of the same kind changes nothing
append_blank : (x y : Segment) → alike x y ≡ true → blank y ≡ true → append x y ≡ x
append_blank x y e f =
    ap (λ n. record { kind = x.kind; numbers = n })
    (rw (no_numbers y (and_both (is_sequence y.kind) (empty y) f).1) (append-nil x.numbers))

blank_append : (x y : Segment) → alike x y ≡ true → blank x ≡ true → append x y ≡ y
blank_append x y e f =
    ap₂ (λ k n. record { kind = k; numbers = n }) (eqb-true x.kind y.kind (and_both (is_sequence x.kind) (eqb x.kind y.kind) e).1)
    (rw (no_numbers x (and_both (is_sequence x.kind) (empty x) f).1))

-- the four steps of the scan
module _ (x y : Segment) (l : List Segment) where
  over : blank x ≡ true → scan_from merge x (y ∷ l) ≡ scan_from merge y l
  over e = scan_one merge x y l y (go (alike x y) refl)
    where
      go : (t : Bool) → alike x y ≡ t → cond (alike x y) (Some (append x y)) (cond (blank x) (Some y) (cond (blank y) (Some x) None)) ≡ Some y
      go true f = rw f (ap Some (blank_append x y f e))
      go false f = rw (f, e)

  module _ (n : blank x ≡ false) where
    past : blank y ≡ true → scan_from merge x (y ∷ l) ≡ scan_from merge x l
    past e = scan_one merge x y l x (go (alike x y) refl)
      where
        go : (t : Bool) → alike x y ≡ t → cond (alike x y) (Some (append x y)) (cond (blank x) (Some y) (cond (blank y) (Some x) None)) ≡ Some x
        go true f = rw f (ap Some (append_blank x y f e))
        go false f = rw (f, n, e)

    joins : alike x y ≡ true → scan_from merge x (y ∷ l) ≡ scan_from merge (append x y) l
    joins f = scan_one merge x y l (append x y) (rw f)

    parts : blank y ≡ false → alike x y ≡ false → scan_from merge x (y ∷ l) ≡ x ∷ scan_from merge y l
    parts e f = scan_two merge x y l (rw (f, n, e))

-- a join is no empty sequence if its second part is none
full_join : (x y : Segment) → alike x y ≡ true → blank y ≡ false → blank (append x y) ≡ false
full_join x y e f = go (empty y) refl
  where
    k : x.kind ≡ y.kind
    k = eqb-true x.kind y.kind (and_both (is_sequence x.kind) (eqb x.kind y.kind) e).1

    s : is_sequence y.kind ≡ true
    s = sym (ap is_sequence k) ∙ (and_both (is_sequence x.kind) (eqb x.kind y.kind) e).0

    go : (t : Bool) → empty y ≡ t → blank (append x y) ≡ false
    go true g =
        let h : blank y ≡ true = ap₂ (λ a b. a && b) s g in
        let z : ◌≡◌ {A = ℕ} 0 1 = cc in
        absurd (omega arith)
    go false g =
        ap (λ b. is_sequence x.kind && b) (ne_eqb (length (x.numbers ++ y.numbers)) 0 (λ h. eqb-false (length y.numbers) 0 g (omega (arith, h, length-append x.numbers y.numbers))))
        ∙ and-false (is_sequence x.kind)

alike_same : (x y : Segment) → alike x y ≡ true → x.kind ≡ y.kind
alike_same x y e = eqb-true x.kind y.kind (and_both (is_sequence x.kind) (eqb x.kind y.kind) e).1

abbrev F : Segment → List Segment → List Segment
F = scan_from merge

-- scanning behind x a list that was scanned from y
module _ (b : List Segment) (ih : (x y : Segment) → F x (F y b) ≡ F x (y ∷ b)) (x y z : Segment) where
  y_blank : blank y ≡ true → F x (F y (z ∷ b)) ≡ F x (y ∷ z ∷ b)
  y_blank e = ap (F x) (over y z b e) ∙ ih x z ∙ go (blank x) refl
    where
      go : (t : Bool) → blank x ≡ t → F x (z ∷ b) ≡ F x (y ∷ z ∷ b)
      go true f = over x z b f ∙ sym (over x y (z ∷ b) f ∙ over y z b e)
      go false f = sym (past x y (z ∷ b) f e)

  module _ (n : blank y ≡ false) where
    z_blank : blank z ≡ true → F x (F y (z ∷ b)) ≡ F x (y ∷ z ∷ b)
    z_blank e = ap (F x) (past y z b n e) ∙ ih x y ∙ go (blank x) refl (alike x y) refl
      where
        go : (t : Bool) → blank x ≡ t → (u : Bool) → alike x y ≡ u → F x (y ∷ b) ≡ F x (y ∷ z ∷ b)
        go true f u g = over x y b f ∙ sym (over x y (z ∷ b) f ∙ past y z b n e)
        go false f true g = joins x y b f g ∙ sym (joins x y (z ∷ b) f g ∙ past (append x y) z b (full_join x y g n) e)
        go false f false g = parts x y b f n g ∙ sym (parts x y (z ∷ b) f n g ∙ ap (λ l. x ∷ l) (past y z b n e))

    module _ (k : blank z ≡ false) where
      joined : alike y z ≡ true → F x (F y (z ∷ b)) ≡ F x (y ∷ z ∷ b)
      joined e = ap (F x) (joins y z b n e) ∙ ih x (append y z) ∙ go (blank x) refl (alike x y) refl
        where
          three : append x (append y z) ≡ append (append x y) z
          three = ap (λ l. record { kind = x.kind; numbers = l }) (sym (append_assoc x.numbers y.numbers z.numbers))

          go : (t : Bool) → blank x ≡ t → (u : Bool) → alike x y ≡ u → F x (append y z ∷ b) ≡ F x (y ∷ z ∷ b)
          go true f u g = over x (append y z) b f ∙ sym (over x y (z ∷ b) f ∙ joins y z b n e)
          go false f true g =
              joins x (append y z) b f g ∙ ap (λ w. F w b) three
              ∙ sym
              (joins x y (z ∷ b) f g
              ∙ joins (append x y) z b (full_join x y g n) (ap (λ j. is_sequence j && eqb j z.kind) (alike_same x y g) ∙ e))
          go false f false g = parts x (append y z) b f (full_join y z e k) g ∙ sym (parts x y (z ∷ b) f n g ∙ ap (λ l. x ∷ l) (joins y z b n e))

      parted : alike y z ≡ false → F x (F y (z ∷ b)) ≡ F x (y ∷ z ∷ b)
      parted e = ap (F x) (parts y z b n k e) ∙ go (blank x) refl (alike x y) refl
        where
          go : (t : Bool) → blank x ≡ t → (u : Bool) → alike x y ≡ u → F x (y ∷ F z b) ≡ F x (y ∷ z ∷ b)
          go true f u g = over x y (F z b) f ∙ ih y z ∙ sym (over x y (z ∷ b) f)
          go false f true g = joins x y (F z b) f g ∙ ih (append x y) z ∙ sym (joins x y (z ∷ b) f g)
          go false f false g = parts x y (F z b) f n g ∙ ap (λ l. x ∷ l) (ih y z) ∙ sym (parts x y (z ∷ b) f n g)

  all_cases : F x (F y (z ∷ b)) ≡ F x (y ∷ z ∷ b)
  all_cases = go (blank y) refl (blank z) refl (alike y z) refl
    where
      go : (t : Bool) → blank y ≡ t → (u : Bool) → blank z ≡ u → (v : Bool) → alike y z ≡ v → F x (F y (z ∷ b)) ≡ F x (y ∷ z ∷ b)
      go true e u f v g = y_blank e
      go false e true f v g = z_blank e f
      go false e false f true g = joined e f g
      go false e false f false g = parted e f g

through : (b : List Segment) (x y : Segment) → F x (F y b) ≡ F x (y ∷ b)
unfolding scan_from
through [] x y = refl
through (z ∷ b) x y = all_cases b (through b) x y z

merge_append_stable : Stable merge
merge_append_stable =
    merge_stable (λ x. x.kind) empty append (λ x y. refl)
    (λ x y e. ne_eqb (length (x.numbers ++ y.numbers)) 0 (λ f. eqb-false (length x.numbers) 0 e (omega (arith, f, length-append x.numbers y.numbers))))

second : (a b : List Segment) → scan merge (a ++ scan merge b) ≡ scan merge (a ++ b)
unfolding scan
second [] b = twice b
  where
    twice : (b : List Segment) → scan merge (scan merge b) ≡ scan merge b
    twice b = scan_twice merge merge_append_stable b
second (x ∷ a) b = second_from merge through x a b

pub coalesce_join : (a b : List Segment) → coalesce (coalesce a ++ coalesce b) ≡ coalesce (a ++ b)
coalesce_join a b = scan_first merge merge_append_stable a (coalesce b) ∙ second a b

-- normal forms: repeats removed before the scan of a joined path, or behind it
map_append : (f : Segment → Segment) (a b : List Segment) → map f (a ++ b) ≡ map f a ++ map f b
map_append f [] b = refl
map_append f (x ∷ a) b = ap (λ l. f x ∷ l) (map_append f a b)

deduped_twice : (p : List Segment) → map dedup_numbers (map dedup_numbers p) ≡ map dedup_numbers p
deduped_twice [] = refl
deduped_twice (x ∷ p) = ap₂ (λ n l. record { kind = x.kind; numbers = n } ∷ l) (dedup_twice x.numbers) (deduped_twice p)

deduped_coalesced : (p : List Segment) → map dedup_numbers (coalesce (map dedup_numbers p)) ≡ map dedup_numbers (coalesce p)
deduped_coalesced p = scan_deduped (map dedup_numbers p) ∙ rw (deduped_twice p) (sym (scan_deduped p))

pub normal_is : (p : List Segment) → dedup_coalesce p ≡ map dedup_numbers (coalesce (map dedup_segment p))
normal_is p = sym (scan_deduped (map dedup_segment p) ∙ rw (once_is_enough p))

pub normal_join : (a b : List Segment) → All Known a → All Known b → dedup_coalesce (dedup_coalesce a ++ dedup_coalesce b) ≡ dedup_coalesce (a ++ b)
normal_join a b j k =
    normal_is (dedup_coalesce a ++ dedup_coalesce b)
    ∙ ap (λ l. map dedup_numbers (coalesce l))
    (map_append dedup_segment (dedup_coalesce a) (dedup_coalesce b)
    ∙ ap₂ (λ l m. l ++ m) (all_same dedup_segment (dedup_coalesce a) (normal_segments a j)) (all_same dedup_segment (dedup_coalesce b) (normal_segments b k))
    ∙ ap₂ (λ l m. l ++ m) (normal_is a) (normal_is b)
    ∙ sym (map_append dedup_numbers (coalesce (map dedup_segment a)) (coalesce (map dedup_segment b))))
    ∙ deduped_coalesced (coalesce (map dedup_segment a) ++ coalesce (map dedup_segment b))
    ∙ ap (map dedup_numbers) (coalesce_join (map dedup_segment a) (map dedup_segment b) ∙ ap coalesce (sym (map_append dedup_segment a b)))
    ∙ sym (normal_is (a ++ b))
