-- The bytes of a state that next and turn leave as they are: bytes that spell a state are its own, and of a state that differs from it behind the first
-- k words only the others have to be written. Assumes nothing.
use Rattle.std.specs.Prelude.{Some}
use mathlib.Core.Path.{◌≡◌, sym, ap, ◌∙◌}
use mathlib.Core.List.{List, [], ◌∷◌, ◌++◌}
use Prim.Native.Nat.{ℕ, ◌-◌, ◌*◌, ◌≤◌}
use native.Mathlib.Omega.{arith}
use lib.ListN.{length, get_or, take, drop}
use mir.Syntax.{w8}
use mir.Val.{Fits}
use Rattle.output.specs.Output.{front}
use Rattle.output.proofs.Output.{front_part}
use Rattle.little.specs.Little.{bytes_of, words_in}
use Rattle.little.proofs.Laws.{length_words, take_words, words_small, front_words}
use Rattle.network.specs.declared.NetworkPrefix.{NetworkPrefix}
use Rattle.plain_reader.specs.Cursor.{Cursor}
use Rattle.text_dump.specs.State.{moved, turned}
use Rattle.text_dump.specs.declared.State.{State}
use Rattle.codec.specs.Words.{state_words, cursor_words}
use Rattle.codec.proofs.OneSpelling.{spelled}
use Rattle.codec.proofs.Writing.{moved_words, cursor_last, turned_words, position_last}
use Rattle.collector.specs.Bytes.{state_bytes, state_in}

module _ (s : List ℕ) (room : 128 ≤ length s) (known : (i : ℕ) → Fits w8 (get_or s i 0)) (σ : State) (here : state_in s ≡ Some σ) where
  its_words : words_in 16 s ≡ state_words σ
  unfolding state_in
  its_words = (spelled (words_in 16 s) σ here).0 (length_words 16 s) (words_small 16 s room known 9)

  others : (τ : State) (k : ℕ) → k ≤ 16 → take k (state_words τ) ≡ take k (state_words σ)
      → take (8 * k) s ++ front (bytes_of (drop k (state_words τ))) (drop (8 * k) s) ≡ front (state_bytes τ) s
  unfolding state_bytes
  others τ k h e =
      sym (front_words (state_words τ) s k (omega arith) known (e ∙ ap (take k) (sym its_words) ∙ take_words k 16 s h))

  -- the same reading elsewhere
  pub moved_bytes : (c : Cursor NetworkPrefix) (τ : State) → moved σ c ≡ τ
      → take 80 s ++ front (bytes_of (cursor_words τ.remembered τ.position)) (drop 80 s) ≡ front (state_bytes τ) s
  moved_bytes c τ e = rw (← cursor_last τ) (others τ 10 (omega arith) (ap (λ (υ : State). take 10 (state_words υ)) (sym e) ∙ moved_words σ c))

  -- at the start of the next part
  pub turned_bytes : (new : List ℕ) → new ≡ front (bytes_of (0 ∷ [])) (take (length s - 120) (drop 120 s))
      → take 120 s ++ (new ++ drop (length s - 120) (drop 120 s)) ≡ front (state_bytes (turned σ)) s
  turned_bytes new e =
      front_part (bytes_of (0 ∷ [])) s new 120 e
      ∙ ap (λ (l : List ℕ). take 120 s ++ front (bytes_of l) (drop 120 s)) (sym (position_last (turned σ)))
      ∙ others (turned σ) 15 (omega arith) (turned_words σ)
