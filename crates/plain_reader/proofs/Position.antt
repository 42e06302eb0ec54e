-- The position at which next leaves a text is that of the lines that it left.
use Prim.Native.Nat.{ℕ, ◌-◌, ◌≤◌}
use mathlib.Core.Path.{◌≡◌, refl, sym, ap, ◌∙◌}
use mathlib.Core.List.{List, [], ◌∷◌, ◌++◌, flatten, append_assoc}
use native.Mathlib.Omega.{arith}
use lib.ListN.{length, take, drop, length-append, take-append-drop}
use lib.Seq.{drop_at}
use Rattle.scan.specs.Lines.{lines}
use Rattle.plain_reader.specs.Rules.{Rules, Remembered}
use Rattle.plain_reader.specs.Plain.{PlainState, Step, opened, next_plain}
use Rattle.plain_reader.specs.Cursor.{Cursor, after_header, view, next_at}
use Rattle.scan.proofs.LineLaws.{flatten_lines, lines_last}
use Rattle.plain_reader.proofs.ListLaws.{flatten_append}
use Rattle.plain_reader.proofs.Scan.{Scan, ends, six, passes, yields, refuses, scan}

-- the lines a are the last of the lines l
abbrev Last : List (List ℕ) → List (List ℕ) → Type 0
Last a l = (u : List (List ℕ)) × (l ≡ u ++ a)

behind : {x : List ℕ} {a l : List (List ℕ)} → Last (x ∷ a) l → Last a l
behind {x} {a} h = (h.0 ++ (x ∷ []), h.1 ∙ sym (append_assoc h.0 (x ∷ []) a))

-- the lines from the place on where some last lines are left
last_lines : (t : List ℕ) (i : ℕ) (l : List (List ℕ)) → Last l (lines (drop i t)) → lines (drop (length t - length (flatten l)) t) ≡ l
last_lines t i l h = rw (cut_off (take i t ++ flatten h.0) (flatten l) split) (lines_last h.0 (drop i t) l h.1)
  where
    rest : drop i t ≡ flatten h.0 ++ flatten l
    rest = sym (flatten_lines (drop i t)) ∙ ap flatten h.1 ∙ flatten_append h.0 l

    split : t ≡ (take i t ++ flatten h.0) ++ flatten l
    split = sym (take-append-drop i t) ∙ ap (λ (r : List ℕ). take i t ++ r) rest ∙ sym (append_assoc (take i t) (flatten h.0) (flatten l))

    cut_off : (b q : List ℕ) → t ≡ b ++ q → drop (length t - length q) t ≡ q
    cut_off b q e = rw e (drop_at b q (length (b ++ q) - length q) (omega (arith, length-append b q)))

module _ (L : Rules) where
  -- what next leaves are the last of the lines that it had
  module _ (σ : PlainState L.Prefix) (k : L.Places) where
    leaves : {m : Remembered L.Prefix} {l : List (List ℕ)} {z : Step L} → Scan L σ k m l z → Last l σ.left → Last z.1.left σ.left
    leaves ends h = h
    leaves (six c) h = ([], refl)
    leaves (passes y c d e s) h = leaves s (behind h)
    leaves (yields t r p c e f) h = behind h
    leaves (refuses t r p n c e f) h = ([], refl)

  -- the position lies in the text, and the lines from it on are those left
  abbrev pub At : List ℕ → Cursor L.Prefix → PlainState L.Prefix → Type 0
  At t c σ = (c.at ≤ length t) × (view t c ≡ σ)

  -- and so they are after next
  pub next_view : (t : List ℕ) (c : Cursor L.Prefix) (σ : PlainState L.Prefix) (k : L.Places) → At t c σ → At t (next_at L t k c).1 (next_plain L k σ).1
  next_view t c σ k h =
      let τ : PlainState L.Prefix = (next_plain L k (view t c)).1 in
      let rest = leaves (view t c) k (scan L (view t c) k c.remembered (view t c).left) ([], refl) in (
        omega arith,
        ap (λ (l : List (List ℕ)). record { left = l; remembered = τ.remembered }) (last_lines t c.at τ.left rest) ∙ ap (λ (υ : PlainState L.Prefix). (next_plain L k υ).1) h.1,
      )

  -- behind a header of any length the first part's lines are left
  pub open_view : (h p : List ℕ) → At (h ++ p) (after_header h) (opened p)
  open_view h p = (omega (arith, length-append h p), ap opened (drop_at h p (length h) refl))
