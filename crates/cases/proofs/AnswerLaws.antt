-- Laws of writing the lists of an answer.
use mathlib.Core.Path.{◌≡◌, refl}
use mathlib.Core.List.{List, [], ◌∷◌}
use mathlib.Core.Bool.{false, true≢false}
use Prim.Native.Nat.{ℕ, ◌+◌, ◌≤◌, ◌<◌}
use native.Mathlib.Numerals.{add-one}
use lib.ListN.{length, get_or, drop, drop_of_length-le}
use lib.Seq.{drop-cons}
use Rattle.std.specs.Prelude.{◌==◌}
use Rattle.output.specs.Writing.{Writes}
use Rattle.output.specs.declared.Writer.{Writer}
use Rattle.output.proofs.Writing.{Left, next_left, none_left}
use Rattle.cases.specs.Answers.{each, hex_pair, in_hex}

-- items' texts: those from the place i on are still to be written
module _ (text : ℕ → List ℕ) (s : List ℕ) (i : ℕ) (w₀ w : Writer) (l : Left (each text s) w₀ (each text (drop i s)) w) where
  pub next_item : i < length s → (t : List ℕ) (v : Writer) → t ≡ text (get_or s i 0) → Writes t w v → Left (each text s) w₀ (each text (drop (i + 1) s)) v
  unfolding each
  next_item h t v e a = rw add-one (next_left (rw (drop-cons s i 0 h, ← e) at l) a)

  pub all_items : length s ≤ i → Writes (each text s) w₀ w
  unfolding each
  all_items h = let z : drop i s ≡ [] = drop_of_length-le s {i = i} h in none_left (rw z at l)

pub some_bytes : (s : List ℕ) → (length s == 0) ≡ false → each hex_pair s ≡ in_hex s
some_bytes [] e = absurd (true≢false e)
some_bytes (b ∷ s) e = refl
