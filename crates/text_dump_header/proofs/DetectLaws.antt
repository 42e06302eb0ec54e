-- Laws of detection.
use Prim.Native.Nat.{ℕ, ◌<◌, ◌≤◌, min}
use mathlib.Core.Path.{◌≡◌, refl, sym, ◌∙◌}
use mathlib.Core.Bool.{Bool, true, false}
use mathlib.Core.List.{List, [], ◌∷◌}
use native.Mathlib.Omega.{arith}
use lib.ListN.{length, take, get_or}
use lib.Seq.{take_all}
use lib.Dec.{leb}
use borrow.Author.Tests.{leb-true, leb-false}
use Rattle.utf8.specs.Utf8.{readable}
use Rattle.std.specs.Char.{is_ascii_graphic}
use Rattle.text_dump_header.specs.Detect.{has_mark, is_table, detect}

-- the first 128 bytes, or as many as there are
pub first_bytes : (s : List ℕ) (n : ℕ) → n ≡ min (length s) 128 → take n s ≡ take 128 s
first_bytes s n e = go (leb (length s) 128) refl
  where
    go : (z : Bool) → leb (length s) 128 ≡ z → take n s ≡ take 128 s
    go true f =
        let h : length s ≤ 128 = leb-true (length s) 128 f in
        take_all n s (omega arith) ∙ sym (take_all 128 s h)
    go false f =
        let h : 128 < length s = leb-false (length s) 128 f in
        let k : n ≡ 128 = omega arith in
        rw k

module _ (s h : List ℕ) (q : h ≡ take 128 s) where
  pub no_bytes : length h < 1 → false ≡ detect s
  unfolding detect
  no_bytes z = rw (← q) (go h z)
    where
      go : (h : List ℕ) → length h < 1 → false ≡ is_table h
      go [] z = refl
      go (b ∷ h) z = absurd (omega arith)

  module _ (a : Bool) (qa : a ≡ is_ascii_graphic (get_or h 0 0)) where
    pub no_graphic : a ≡ false → false ≡ detect s
    unfolding detect
    no_graphic e = rw (← q, ← qa, e)

    module _ (e : a ≡ true) (b : Bool) (qb : b ≡ readable h) where
      pub no_text : b ≡ false → b ≡ detect s
      unfolding detect
      no_text f = f ∙ rw (← q, ← qa, e, ← qb, f)

      pub marked : b ≡ true → (c : Bool) → c ≡ has_mark h → c ≡ detect s
      unfolding detect
      marked f c qc = rw (← q, ← qa, e, ← qb, f, ← qc)

-- what detection uses
pub ruleset detect_laws = (no_bytes, no_graphic, no_text, marked)
