-- Words as bytes, and back. Assumes nothing.
use mathlib.Core.Path.{◌≡◌, refl, sym, ap, ◌∙◌}
use mathlib.Core.List.{List, [], ◌∷◌, ◌++◌, append_assoc, append-nil}
use Prim.Native.Nat.{ℕ, zero, suc, ◌+◌, ◌*◌, ◌^◌, ◌≤◌, ◌<◌}
use native.Mathlib.Omega.{arith}
use lib.ListN.{length, get_or, take, drop, length-append, length-drop, take-append-drop}
use lib.Seq.{take_at, drop_at, take-add, length-take-le}
use Rattle.output.specs.Output.{front}
use Rattle.output.proofs.Output.{front_behind}
use Rattle.word.specs.Word.{little_endian, number}
use Rattle.word.proofs.Laws.{length_bytes, number_back, Bytes, take_bytes, drop_bytes, number_bound, bytes_back}
use Rattle.little.specs.Little.{bytes_of, words_in}

pub length_bytes_of : (w : List ℕ) → length (bytes_of w) ≡ 8 * length w
unfolding bytes_of
length_bytes_of [] = refl
length_bytes_of (v ∷ w) = rw (length-append, length_bytes 7 v, length_bytes_of w) (omega arith)

pub bytes_append : (a b : List ℕ) → bytes_of (a ++ b) ≡ bytes_of a ++ bytes_of b
unfolding bytes_of
bytes_append [] b = refl
bytes_append (v ∷ a) b = rw (bytes_append a b) (sym (simp append_assoc))

-- the bytes of words are read as those words, whatever stands behind them
pub words_back : (w t : List ℕ) → words_in (length w) (bytes_of w ++ t) ≡ w
unfolding words_in bytes_of
words_back [] t = refl
words_back (v ∷ w) t =
    let b = little_endian v in
    let rest = bytes_of w ++ t in
    let e : length b ≡ 8 = length_bytes 7 v in
    rw (append_assoc b (bytes_of w) t, take_at b rest 8 e, drop_at b rest 8 e, number_back 7 v, words_back w t)

-- the words that are read
pub length_words : (n : ℕ) (s : List ℕ) → length (words_in n s) ≡ n
unfolding words_in
length_words zero s = refl
length_words (suc n) s = ap suc (length_words n (drop 8 s))

pub take_words : (k n : ℕ) (s : List ℕ) → k ≤ n → take k (words_in n s) ≡ words_in k s
unfolding words_in
take_words zero n s h = refl
take_words (suc k) zero s h = absurd (let f : ⊥ = omega arith in f)
take_words (suc k) (suc n) s h = ap (λ (l : List ℕ). number (take 8 s) ∷ l) (take_words k n (drop 8 s) (omega arith))

-- of bytes: they are words, and their bytes are those that were read
pub words_small : (n : ℕ) (s : List ℕ) → 8 * n ≤ length s → Bytes s → (i : ℕ) → get_or (words_in n s) i 0 < 2 ^ 64
unfolding words_in
words_small zero s h b i = omega arith
words_small (suc n) s h b zero = rw (length-take-le 8 s (omega arith)) at (number_bound (take 8 s) (take_bytes 8 s b))
words_small (suc n) s h b (suc i) = words_small n (drop 8 s) (rw length-drop (omega arith)) (drop_bytes 8 s b) i

pub bytes_words : (n : ℕ) (s : List ℕ) → 8 * n ≤ length s → Bytes s → bytes_of (words_in n s) ≡ take (8 * n) s
unfolding bytes_of words_in
bytes_words zero s h b = refl
bytes_words (suc n) s h b =
    let size : length (take 8 s) ≡ 8 = length-take-le 8 s (omega arith) in
    let first : little_endian (number (take 8 s)) ≡ take 8 s = bytes_back 7 (take 8 s) (take_bytes 8 s b) (omega arith) ∙ rw size (append-nil (take 8 s)) in
    let others : bytes_of (words_in n (drop 8 s)) ≡ take (8 * n) (drop 8 s) = bytes_words n (drop 8 s) (rw length-drop (omega arith)) (drop_bytes 8 s b) in
    let q : 8 * suc n ≡ 8 + 8 * n = omega arith in
    rw (q, first, others) (sym (take-add 8 (8 * n) s))

-- words of which the first k stand at the front already: the others are written behind them
pub front_words : (w s : List ℕ) (k : ℕ) → 8 * k ≤ length s → Bytes s → take k w ≡ words_in k s
    → front (bytes_of w) s ≡ take (8 * k) s ++ front (bytes_of (drop k w)) (drop (8 * k) s)
front_words w s k h b e =
    let a = take (8 * k) s in
    let t = bytes_of (drop k w) in
    let all : bytes_of w ≡ a ++ t = ap bytes_of (sym (take-append-drop k w)) ∙ bytes_append (take k w) (drop k w) ∙ ap (λ (l : List ℕ). l ++ t) (ap bytes_of e ∙ bytes_words k s h b) in
    ap (λ (l : List ℕ). front l s) all ∙ ap (front (a ++ t)) (sym (take-append-drop (8 * k) s)) ∙ front_behind a t (drop (8 * k) s)
