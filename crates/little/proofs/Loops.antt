-- The loops over words. Assumes nothing.
use Rattle.std.specs.Prelude.{Ok, Err}
use mathlib.Core.Path.{◌≡◌, refl, sym, ap, ◌∙◌}
use mathlib.Core.Bool.{true, false}
use mathlib.Core.List.{List, [], ◌∷◌, ◌++◌, append-nil, append_assoc}
use Prim.Native.Nat.{ℕ, zero, suc, ◌+◌, ◌*◌, ◌/◌, ◌-◌, ◌^◌, ◌≤◌, ◌<◌}
use native.Mathlib.Omega.{arith}
use native.Mathlib.Numerals.{add-one}
use lib.ListN.{length, get_or, take, drop, set, length-take, length-drop}
use lib.Dec.{leb}
use borrow.Author.Tests.{le-leb, lt-leb}
use lib.Seq.{take-suc, take_at, drop_at, drop-drop, take-suc-set, length-take-le, take_all}
use mir.Syntax.{w64}
use Rattle.std.specs.Int.{from_le_bytes, to_le_bytes}
use Rattle.std.specs.Simd.{first_chunks}
use Rattle.output.specs.Output.{front, answer}
use Rattle.output.specs.declared.PutError.TheVariants.{TooShort}
use Rattle.word.specs.Word.{little_endian, number}
use Rattle.word.proofs.Laws.{read_le, written_le}
use Rattle.little.specs.Little.{bytes_of, words_in}
use Rattle.little.proofs.Laws.{length_bytes_of, bytes_append}

-- one more word written
more : (w : List ℕ) (i : ℕ) → i < length w → bytes_of (take (i + 1) w) ≡ bytes_of (take i w) ++ little_endian (get_or w i 0)
unfolding bytes_of
more w i h = rw (add-one i, take-suc w i 0 h, bytes_append (take i w) (get_or w i 0 ∷ []), append-nil (little_endian (get_or w i 0)))

-- `put_words`: the words in front of i are written
pub put_start : (w out₀ : List ℕ) → out₀ ≡ bytes_of (take 0 w) ++ drop (8 * 0) out₀
unfolding bytes_of
put_start w out₀ = refl

module _ (w out₀ out : List ℕ) (i : ℕ) (at : out ≡ bytes_of (take i w) ++ drop (8 * i) out₀) where
  -- of any number, a word's or not
  pub put_step : (ys : List ℕ) → i < length w → ys ≡ little_endian (get_or w i 0)
      → take (8 * i) out ++ (ys ++ drop (8 * i + 8 - 8 * i) (drop (8 * i) out)) ≡ bytes_of (take (i + 1) w) ++ drop (8 * (i + 1)) out₀
  put_step ys h e =
      let p = bytes_of (take i w) in
      let n : length p ≡ 8 * i = length_bytes_of (take i w) ∙ ap (λ (j : ℕ). 8 * j) (length-take-le i w (omega arith)) in
      let k : 8 * i + 8 - 8 * i ≡ 8 = omega arith in
      let q : 8 * i + 8 ≡ 8 * (i + 1) = omega arith in
      let grown : bytes_of (take (i + 1) w) ≡ p ++ little_endian (get_or w i 0) = more w i h in
      rw (k, at, take_at p (drop (8 * i) out₀) (8 * i) n, drop_at p (drop (8 * i) out₀) (8 * i) n, drop-drop 8 (8 * i) out₀, q, e, grown)
      (sym (append_assoc p (little_endian (get_or w i 0)) (drop (8 * (i + 1)) out₀)))

  pub put_turn : (ys : List ℕ) → i < length w → get_or w i 0 < 2 ^ 64 → ys ≡ to_le_bytes w64 (get_or w i 0)
      → take (8 * i) out ++ (ys ++ drop (8 * i + 8 - 8 * i) (drop (8 * i) out)) ≡ bytes_of (take (i + 1) w) ++ drop (8 * (i + 1)) out₀
  put_turn ys h fits e = put_step ys h (e ∙ written_le (get_or w i 0) fits)

module _ (w out₀ : List ℕ) where
  pub put_all : (out : List ℕ) (i : ℕ) → out ≡ bytes_of (take i w) ++ drop (8 * i) out₀ → i ≤ length w → length w ≤ i → length w ≤ length out₀ / 8
      → (Ok (8 * length w) ≡ answer (bytes_of w) out₀) × (out ≡ front (bytes_of w) out₀)
  unfolding answer front
  put_all out i at h l room =
      let e : i ≡ length w = omega arith in
      let n : length (bytes_of w) ≡ 8 * length w = length_bytes_of w in
      let b : leb (8 * length w) (length out₀) ≡ true = le-leb (8 * length w) (length out₀) (omega arith) in
      (rw (n, b), at ∙ rw (n, b, e, take_all (length w) w (omega arith)))

  pub put_none : length out₀ / 8 < length w → ((Err TooShort) ≡ answer (bytes_of w) out₀) × (out₀ ≡ front (bytes_of w) out₀)
  unfolding answer front
  put_none h =
      let n : length (bytes_of w) ≡ 8 * length w = length_bytes_of w in
      let b : leb (8 * length w) (length out₀) ≡ false = lt-leb (8 * length w) (length out₀) (omega arith) in
      (rw (n, b), rw (n, b))

-- the part at i of eights
part_at : (k i : ℕ) (s d : List ℕ) → i < k → get_or (first_chunks 8 k s) i d ≡ take 8 (drop (8 * i) s)
part_at zero i s d h = absurd (let f : ⊥ = omega arith in f)
part_at (suc k) zero s d h = refl
part_at (suc k) (suc i) s d h =
    let q : 8 + 8 * i ≡ 8 * suc i = omega arith in
    part_at k i (drop 8 s) d (omega arith) ∙ ap (take 8) (drop-drop (8 * i) 8 s ∙ ap (λ (j : ℕ). drop j s) q)

-- one more word is read behind n
words_more : (n : ℕ) (s : List ℕ) → words_in (suc n) s ≡ words_in n s ++ (number (take 8 (drop (8 * n) s)) ∷ [])
unfolding words_in
words_more zero s = refl
words_more (suc n) s =
    let q : 8 + 8 * n ≡ 8 * suc n = omega arith in
    rw (words_more n (drop 8 s), drop-drop (8 * n) 8 s, q)

-- `get_words`: the words in front of i are read
pub get_start : (b : List ℕ) → ◌≡◌ {A = List ℕ} [] (words_in 0 b)
unfolding words_in
get_start b = refl

-- of any bytes, too few for a word or not
pub get_step : (b w : List ℕ) (i v : ℕ) → take i w ≡ words_in i b → i < length w → v ≡ number (take (8 * i + 8 - 8 * i) (drop (8 * i) b))
    → take (i + 1) (set w i v) ≡ words_in (i + 1) b
get_step b w i v at h e =
    let k : 8 * i + 8 - 8 * i ≡ 8 = omega arith in
    rw (add-one i, take-suc-set w i v h, at, e, k) (sym (words_more i b))

pub get_turn : (b w : List ℕ) (parts : List (List ℕ)) (i v : ℕ) → take i w ≡ words_in i b → i < length w → i < length b / 8
    → parts ≡ first_chunks 8 (length b / 8) b → v ≡ from_le_bytes w64 (get_or parts i []) → take (i + 1) (set w i v) ≡ words_in (i + 1) b
get_turn b w parts i v at h room p e =
    let part : get_or parts i [] ≡ take 8 (drop (8 * i) b) = rw p (part_at (length b / 8) i b [] room) in
    let size : length (take 8 (drop (8 * i) b)) ≡ 8 = simp (length-take, length-drop) (omega arith) in
    let word : v ≡ number (take 8 (drop (8 * i) b)) = e ∙ rw part (read_le (take 8 (drop (8 * i) b)) size) in
    let k : 8 * i + 8 - 8 * i ≡ 8 = omega arith in get_step b w i v at h (rw k word)
