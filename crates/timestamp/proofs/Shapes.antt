-- A shape compared byte by byte, and the bytes behind a place. Assumes nothing.
use mathlib.Core.Path.{◌≡◌, refl, sym, ◌∙◌}
use mathlib.Core.Bool.{Bool, true, false, ◌&&◌}
use mathlib.Core.List.{List, [], ◌∷◌}
use Prim.Native.Nat.{ℕ, zero, suc, ◌+◌, ◌-◌, ◌*◌, ◌≤◌, ◌<◌}
use native.Mathlib.Omega.{arith}
use lib.ListN.{length, get_or, take, drop, length-drop}
use lib.Seq.{take_all}
use Rattle.decimal.specs.Decimal.{is_digit}
use Rattle.timestamp.specs.Dates.{fits, has_shape, digit_before, two, date_of}

-- a text that is too short has no shape
pub shape_short : (shape s : List ℕ) → length s < length shape → false ≡ has_shape shape s
unfolding has_shape
shape_short [] s h = absurd (let f : ⊥ = omega arith in f)
shape_short (p ∷ shape) [] h = refl
shape_short (p ∷ shape) (b ∷ s) h = go (fits p b) (shape_short shape s (omega arith))
  where
    go : (x : Bool) → false ≡ has_shape shape s → false ≡ (x && has_shape shape s)
    go true e = e
    go false e = refl

-- what is left of the shape and of the text decides
abbrev pub Ahead : (shape s left rest : List ℕ) → Type 0
Ahead shape s left rest = (has_shape shape s ≡ has_shape left rest) × (length left ≤ length rest)

module _ (shape s : List ℕ) where
  module _ (left rest l r : List ℕ) (p b : ℕ) (at : Ahead shape s left rest) (one : left ≡ p ∷ l) (two : rest ≡ b ∷ r) (x : Bool) (is : x ≡ fits p b) where
    step : has_shape shape s ≡ (x && has_shape l r)
    unfolding has_shape
    step = at.0 ∙ rw (one, two, is)

    pub ahead_other : x ≡ false → false ≡ has_shape shape s
    ahead_other h = sym (rw h at step)

    pub ahead_next : x ≡ true → Ahead shape s l r
    ahead_next h = let room : length (p ∷ l) ≤ length (b ∷ r) = rw (one, two) at at.1 in (rw h at step, omega (arith, room))

  pub ahead_end : (left rest : List ℕ) → Ahead shape s left rest → length left ≡ 0 → true ≡ has_shape shape s
  unfolding has_shape
  ahead_end [] rest at h = sym at.0
  ahead_end (p ∷ l) rest at h = absurd (let f : ⊥ = omega arith in f)

-- the date whose parts have been read
pub date_is : (s : List ℕ) (a b m d : ℕ) → a ≡ two s 0 → b ≡ two s 2 → m ≡ two s 5 → d ≡ two s 8
    → record { year = 100 * a + b; month = m; day = d } ≡ date_of s
unfolding date_of
date_is s a b m d ea eb em ed = rw (ea, eb, em, ed)

-- the digit before a place
pub none_before : (path : List ℕ) (i : ℕ) → i ≡ 0 → false ≡ digit_before path i
unfolding digit_before
none_before path zero e = refl
none_before path (suc i) e = absurd (omega arith)

pub one_before : (path : List ℕ) (i : ℕ) (b : Bool) → (i ≡ 0 → ⊥) → b ≡ is_digit (get_or path (i - 1) 0) → b ≡ digit_before path i
unfolding digit_before
one_before path zero b e f = absurd (e refl)
one_before path (suc i) b e f = let z : suc i - 1 ≡ i = omega arith in rw z at f

-- the part behind a place
pub part_is : (path : List ℕ) (i : ℕ) → take (length path - i) (drop i path) ≡ drop i path
part_is path i = take_all (length path - i) (drop i path) (simp length-drop (omega arith))
