-- The code's word of the bytes from a place on. Assumes nothing.
use mathlib.Core.Path.{◌≡◌, refl, sym, ap, ◌∙◌}
use mathlib.Core.List.{List, [], ◌∷◌, ◌++◌, append_assoc, append-nil}
use Prim.Native.Nat.{ℕ, ◌+◌, ◌*◌, ◌/◌, ◌-◌, ◌^◌, ◌≤◌, ◌<◌}
use native.Mathlib.Omega.{arith}
use mir.Syntax.{w64}
use mir.Val.{Fits}
use lib.ListN.{length, take, drop, length-drop, drop_of_length-le}
use lib.Pow.{pow_mono}
use lib.Seq.{drop-drop, take_all, drop_at, length-take-le}
use Rattle.std.specs.Array.{IsFirstChunk}
use Rattle.std.specs.Int.{from_le_bytes}
use Rattle.word.specs.Word.{number}
use Rattle.word.proofs.Laws.{Bytes, read_le, number_drop, number_bound, drop_bytes, take_bytes}

-- `eight_at`: the eight bytes from at on, by the library's conversion
pub eight : (s b : List ℕ) (at v : ℕ) → at + 8 ≤ length s → IsFirstChunk (take (length s - at) (drop at s)) b 8 → v ≡ from_le_bytes w64 b
    → v ≡ number (take 8 (drop at s))
eight s b at v h f e =
    let all : take (length s - at) (drop at s) ≡ drop at s = take_all (length s - at) (drop at s) (simp length-drop (omega arith)) in
    let same : b ≡ take 8 (drop at s) = rw all at f.same in
    let size : length b ≡ 8 = rw same (length-take-le 8 (drop at s) (simp length-drop (omega arith))) in
    e ∙ read_le b size ∙ ap number same

-- `few_at`: of the bytes from at on the last ones, q, are read, and those in front of them are left
abbrev pub Few : (s left : List ℕ) (at w : ℕ) → Type 0
Few s left at w = (q : List ℕ) × (left ++ q ≡ drop at s) × (w ≡ number q)

pub few_start : (s left : List ℕ) (at : ℕ) → left ≡ take (length s - at) (drop at s) → Few s left at 0
unfolding number
few_start s left at e =
    let all : take (length s - at) (drop at s) ≡ drop at s = take_all (length s - at) (drop at s) (simp length-drop (omega arith)) in
    ([], append-nil left ∙ e ∙ all, refl)

pub few_all : (s left : List ℕ) (at w : ℕ) → length left ≡ 0 → Few s left at w → w ≡ number (drop at s)
few_all s [] at w n (q, all, e) = e ∙ ap number all
few_all s (b ∷ l) at w n (q, all, e) = absurd (let f : ⊥ = omega arith in f)

module _ (s left rest : List ℕ) (b at w : ℕ) (step : left ≡ rest ++ b ∷ []) where
  pub few_more : Few s left at w → Few s rest at (b + 256 * w)
  unfolding number
  few_more (q, all, e) = (b ∷ q, sym (append_assoc rest (b ∷ []) q) ∙ rw step at all, rw e)

  pub few_fits : Few s left at w → Bytes s → length s ≤ 7 → Fits w64 (b + 256 * w)
  few_fits f h k = go (few_more f)
    where
      go : Few s rest at (b + 256 * w) → Fits w64 (b + 256 * w)
      go (q, all, e) =
          let end : q ≡ drop (length rest) (drop at s) = rw (sym all) (sym (drop_at rest q (length rest) refl)) in
          let size : length q ≤ 7 = rw end (simp length-drop (omega arith)) in
          let bytes : Bytes q = rw end (drop_bytes (length rest) (drop at s) (drop_bytes at s h)) in
          let m : 2 ^ (8 * length q) ≤ 2 ^ 56 = pow_mono {j = 56} (omega arith) in
          record { fits = rw e (omega (arith, number_bound q bytes)) }

-- `word_at`'s ways out
module _ (s : List ℕ) (at : ℕ) where
  pub past : length s ≤ at → 0 ≡ number (take 8 (drop at s))
  unfolding number
  past h = rw (drop_of_length-le s h)

  pub few : (r : ℕ) → length s ≤ 8 + at → r ≡ number (drop at s) → r ≡ number (take 8 (drop at s))
  few r h e = e ∙ ap number (sym (take_all 8 (drop at s) (simp length-drop (omega arith))))

  pub late : (r : ℕ) → Bytes s → 8 ≤ length s → length s - at < 8 → r ≡ number (take 8 (drop (length s - 8) s)) → r / 2 ^ (8 * (at - (length s - 8))) ≡ number (take 8 (drop at s))
  late r h l n e =
      let base : ℕ = length s - 8 in
      let p : base + (at - base) ≡ at = omega arith in
      rw e
      (number_drop (at - base) (take 8 (drop base s)) (take_bytes 8 (drop base s) (drop_bytes base s h))
      ∙ rw (take_all 8 (drop base s) (simp length-drop (omega arith)), drop-drop (at - base) base s, p) (few (number (drop at s)) (omega arith) refl))
