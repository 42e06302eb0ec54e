-- Laws of texts behind separators, and of a path's text.
use mathlib.Core.Path.{◌≡◌, refl, sym, ap, ◌∙◌}
use mathlib.Core.List.{List, [], ◌∷◌, ◌++◌, map}
use mathlib.Core.Bool.{Bool, true, false, ◌&&◌}
use Prim.Native.Nat.{ℕ, ◌+◌, ◌-◌, ◌≤◌, ◌<◌}
use native.Mathlib.Omega.{arith}
use lib.ListN.{length, length-append, length-map}
use borrow.Author.Tests.{le-leb, lt-leb, ne_eqb}
use Rattle.std.specs.Iterator.{Drains}
use Rattle.std.proofs.lemmas.Iterator.{YieldsList, items_from_drains}
use Rattle.std.specs.List.{sum_by}
use Rattle.std.proofs.lemmas.List.Sums.{sum_by-cons}
use Rattle.std.proofs.lemmas.List.{append-nil, append_assoc}
use Rattle.decimal_display.specs.Printed.{decimal}
use Rattle.output.specs.Writing.{Writes}
use Rattle.output.specs.declared.Writer.{Writer}
use Rattle.output.proofs.Writing.{nothing, then, place, put}
use Rattle.output.proofs.Output.{kept}
use Rattle.std.specs.Prelude.{Option, Some, Ok, Err}
use Rattle.aspath.specs.Record.{Segment, cut}
use Rattle.aspath.proofs.Record.{cut_kinds}
use Rattle.aspath_display.specs.Display.{lead, separated, segment_text, path_text, Measured, Displayed}
use Rattle.aspath_display.specs.declared.DisplayError.TheVariants.{TooShort}

-- whether a list has no element
abbrev pub is_none : {A : Type 0} → List A → Bool
is_none [] = true
is_none (x ∷ l) = false

pub pushed_is_some : {A : Type 0} (l : List A) (x : A) → false ≡ is_none (l ++ x ∷ [])
pushed_is_some [] x = refl
pushed_is_some (y ∷ l) x = refl

-- texts written: none, and one more, behind the separator if it is not the first
module _ {A : Type 0} (f : A → List ℕ) (sep : ℕ) where
  pub none_written : (w : Writer) → Writes (separated sep f true []) w w
  unfolding separated
  none_written w = nothing w

  separated_push : (first : Bool) (l : List A) (x : A) → separated sep f first (l ++ x ∷ []) ≡ separated sep f first l ++ lead (first && is_none l) sep ++ f x
  unfolding separated
  separated_push true [] x = append-nil _
  separated_push false [] x = append-nil _
  separated_push true (y ∷ l) x = rw (separated_push false l x) (simp append_assoc)
  separated_push false (y ∷ l) x = rw (separated_push false l x) (simp append_assoc)

  pub one_more_written : (l : List A) (x : A) {w₀ w v v₁ : Writer} → Writes (separated sep f true l) w₀ w → Writes (lead (is_none l) sep) w v → Writes (f x) v v₁
      → Writes (separated sep f true (l ++ x ∷ [])) w₀ v₁
  one_more_written l x known b c = rw (separated_push true l x) (then (then known b) c)

  -- where the items show others
  separated_map : {X : Type 0} (v : X → A) (first : Bool) (l : List X) → separated sep (λ x. f (v x)) first l ≡ separated sep f first (map v l)
  unfolding separated
  separated_map v first [] = refl
  separated_map v first (x ∷ l) = rw (separated_map v false l) refl

  pub all_written : {S X : Type 0} {steps : S → Option X → S → Type 0} {s : S} {v : X → A} {all : List A} {w₀ w : Writer} → YieldsList steps v s all
      → (l : List X) × Drains steps s l × Writes (separated sep (λ x. f (v x)) true l) w₀ w → Writes (separated sep f true all) w₀ w
  all_written {v} e (l, d, c) = rw (separated_map v true l, items_from_drains l (d.1.0, d.1.1, λ _. (d.0, d.1.2)) e) at c

-- each text has one byte more than its own, but the first
module _ {A : Type 0} (f : A → List ℕ) (sep : ℕ) where
  others_len : (l : List A) → length (separated sep f false l) ≡ sum_by (λ x. 1 + length (f x)) l
  unfolding separated
  others_len [] = refl
  others_len (x ∷ l) = omega (arith, length-append ((sep ∷ []) ++ f x) (separated sep f false l), sum_by-cons (λ x. 1 + length (f x)) x l, others_len l)

  pub parted_len : (l : List A) → sum_by (λ x. 1 + length (f x)) l - 1 ≡ length (separated sep f true l)
  unfolding separated
  parted_len [] = refl
  parted_len (x ∷ l) = omega (arith, length-append (f x) (separated sep f false l), sum_by-cons (λ x. 1 + length (f x)) x l, others_len l)

-- a segment's text, by its kind's number
abbrev set : List ℕ → List ℕ
set part = (123 ∷ []) ++ separated 44 decimal true part ++ (125 ∷ [])

-- a set's: 1 is an AsSet, 3 a ConfedSet
pub set_len : (part : List ℕ) (n : ℕ) → Measured (separated 44 decimal true part) 344064 n
    → Measured (segment_text 1 part) 344066 (2 + n) × Measured (segment_text 3 part) 344066 (2 + n)
unfolding segment_text
set_len part n w =
    let m : Measured (set part) 344066 (2 + n) = record { is = simp length-append (omega (arith, w.is)); small = omega (arith, w.small) } in (m, m)

pub sequence_len : (part : List ℕ) (n : ℕ) → Measured (separated 32 decimal true part) 344064 n
    → Measured (segment_text 0 part) 344066 n × Measured (segment_text 2 part) 344066 n
unfolding segment_text
sequence_len part n w =
    let m : Measured (separated 32 decimal true part) 344066 n = record { is = w.is; small = omega (arith, w.small) } in (m, m)

pub set_written : (part : List ℕ) (w v : Writer) → Writes (set part) w v → Writes (segment_text 1 part) w v × Writes (segment_text 3 part) w v
unfolding segment_text
set_written part w v c = (c, c)

pub sequence_written : (part : List ℕ) (w v : Writer) → Writes (separated 32 decimal true part) w v
    → Writes (segment_text 0 part) w v × Writes (segment_text 2 part) w v
unfolding segment_text
sequence_written part w v c = (c, c)

-- of any kind that is no set's
module _ (kind : ℕ) (part : List ℕ) (not_set : kind ≡ 1 → ⊥) (not_confed : kind ≡ 3 → ⊥) where
  no_set : segment_text kind part ≡ separated 32 decimal true part
  unfolding segment_text
  no_set = simp (ne_eqb kind 1 not_set, ne_eqb kind 3 not_confed)

  pub plain_len : (n : ℕ) → Measured (separated 32 decimal true part) 344064 n → Measured (segment_text kind part) 344066 n
  plain_len n w = rw no_set (record { is = w.is; small = omega (arith, w.small) })

  pub plain_written : (w v : Writer) → Writes (separated 32 decimal true part) w v → Writes (segment_text kind part) w v
  plain_written w v c = rw no_set c

-- a path has few segments
pub few_segments : (ks ls ns : List ℕ) → length ks ≤ 4096 → length ls ≡ length ks → length (cut ks ls ns) ≤ 4096
few_segments ks ls ns few paired = omega (arith, sym (length-map (cut ks ls ns) (λ x. x.kind)) ∙ ap length (cut_kinds ks ls ns (sym paired)))

-- what the call answers and leaves
module _ {p : List Segment} {m : ℕ} (e : m ≡ length (path_text true p)) where
  pub shown_short : {out : List ℕ} → length out < m → Displayed (Some p) out (Err TooShort) out
  shown_short {out} h = record { told = simp (← e, lt-leb m (length out) h); left = kept (path_text true p) out m e h }

  pub shown_written : {x out : List ℕ} {w₀ w : Writer} → w₀.at ≡ 0 → w₀.out.now ≡ out → m ≤ length out → Writes (path_text true p) w₀ w → x ≡ w.out.now
      → Displayed (Some p) out (Ok w.at) x
  shown_written {out = out} z o h c f =
      record {
        told = rw (place c z (rw (o, ← e) h)) (simp (← e, le-leb m (length out) h));
        left = (put z o e h c f).1;
      }
