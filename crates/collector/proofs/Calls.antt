-- What each exported call leaves, by the tests and answers on the way: one law for each way through it. Assumes nothing.
use Rattle.std.specs.Prelude.{is_some, Option, Some, None, Result, Ok, Err}
use mathlib.Core.Path.{◌≡◌, refl, sym, ap, ◌∙◌}
use mathlib.Core.Logic.{◌⊎◌, inl, inr}
use mathlib.Core.Bool.{Bool, true, false, not, cond, ◌&&◌, ◌||◌}
use mathlib.Core.List.{List, [], ◌∷◌, ◌++◌}
use Prim.Native.Nat.{ℕ, ◌-◌, ◌≤◌, ◌<◌}
use native.Mathlib.Omega.{arith}
use lib.ListN.{length, get_or, take, drop}
use lib.Dec.{leb, ltb}
use lib.Ieee.{Float}
use borrow.Author.Tests.{not-true, not-false, le-leb, lt-ltb, le-ltb}
use mir.Syntax.{w8}
use mir.Val.{Fits}
use Rattle.output.specs.Output.{front}
use Rattle.elem.specs.declared.Element.{Element}
use Rattle.columns.specs.Columns.{are_rising}
use Rattle.seconds.specs.Seconds.{is_timestamp}
use Rattle.plain_reader.specs.Calls.{refused}
use Rattle.text_dump.specs.State.{cursor, moved, valid_remembered, spoilt}
use Rattle.text_dump.specs.Open.{open_of}
use Rattle.text_dump.specs.Open as Open
use Rattle.text_dump.specs.Next.{Step, next, number, told, lent, Answers}
use Rattle.text_dump.specs.declared.State.{State}
use Rattle.text_dump.specs.declared.OpenError.{OpenError}
use Rattle.text_dump.specs.declared.NextError.{NextError}
use Rattle.text_dump.proofs.NextLaws.{next_moved}
use Rattle.little.specs.Little.{bytes_of, words_in}
use Rattle.codec.specs.Words.{cursor_words}
use Rattle.codec.specs.Spelling.{state_but_time}
use Rattle.codec.proofs.Reading.{if_timed, if_timed_lem}
use Rattle.collector.specs.Bytes.{state_bytes, element_bytes, state_in}
use Rattle.collector.specs.Exports.{opens_in, open_left, turns_in, turn_left, Left, left, answers_in, next_in, next_left}
use Rattle.collector.proofs.Kept.{moved_bytes, turned_bytes}

-- fernweeks_open
module _ (t : List ℕ) (time : Float) (s : List ℕ) where
  pub open_short : length s < 128 → (9, s) ≡ open_left t time s
  unfolding open_left
  open_short h = rw (lt-ltb (length s) 128 h)

  module _ (room : 128 ≤ length s) (r : Result State OpenError) (is : Open.told r ≡ open_of time t) where
    past_open : opens_in s (Open.told r) ≡ open_left t time s
    unfolding open_left
    past_open = rw (le-ltb (length s) 128 room, is)

    pub open_table : (σ : State) (new : List ℕ) → r ≡ Ok σ → new ≡ front (state_bytes σ) s → (0, new) ≡ open_left t time s
    open_table σ new e f = rw f (sym (ap (λ (o : Result State OpenError). opens_in s (Open.told o)) e) ∙ past_open)

    pub open_refused : (error : OpenError) (n : ℕ) → r ≡ Err error → n ≡ Open.number error → (n, s) ≡ open_left t time s
    open_refused error n e f = rw f (sym (ap (λ (o : Result State OpenError). opens_in s (Open.told o)) e) ∙ past_open)

-- fernweeks_turn
module _ (s : List ℕ) where
  pub turn_short : length s < 128 → (9, s) ≡ turn_left s
  unfolding turn_left
  turn_short h = rw (lt-ltb (length s) 128 h)

  module _ (room : 128 ≤ length s) (r : Bool) (told : r ≡ leb 128 (length s) && is_some (state_in s)) where
    tested : r ≡ is_some (state_in s)
    tested = rw (le-leb 128 (length s) room) at told

    past_turn : turns_in s (state_in s) ≡ turn_left s
    unfolding turn_left
    past_turn = rw (le-ltb (length s) 128 room)

    pub turn_no_state : not r ≡ true → (5, s) ≡ turn_left s
    turn_no_state h = go (state_in s) (sym tested ∙ not-true r h) ∙ past_turn
      where
        go : (o : Option State) → is_some o ≡ false → (5, s) ≡ turns_in s o
        go (Some σ) e = let z : ◌≡◌ {A = ℕ} 0 1 = cc in absurd (omega arith)
        go None e = refl

    pub turn_state : not r ≡ false → ((i : ℕ) → Fits w8 (get_or s i 0)) → (new : List ℕ) → new ≡ front (bytes_of (0 ∷ [])) (take (length s - 120) (drop 120 s))
        → (0, take 120 s ++ (new ++ drop (length s - 120) (drop 120 s))) ≡ turn_left s
    turn_state h known new f = go (state_in s) refl (sym tested ∙ not-false r h) ∙ past_turn
      where
        go : (o : Option State) → state_in s ≡ o → is_some o ≡ true → (0, take 120 s ++ (new ++ drop (length s - 120) (drop 120 s))) ≡ turns_in s o
        go (Some σ) here e = ap (λ (l : List ℕ). (0, l)) (turned_bytes s room known σ here new f)
        go None here e = let z : ◌≡◌ {A = ℕ} 0 1 = cc in absurd (omega arith)

-- fernweeks_next
no_time : (σ : State) (n : ℕ) → is_timestamp σ.timestamp ≡ false → spoilt σ n ≡ true
unfolding spoilt
no_time σ n h = rw h (go (ltb n σ.position || not (are_rising σ.columns)) (not (valid_remembered σ.remembered)))
  where
    go : (a b : Bool) → (a || true || b) ≡ true
    go true b = refl
    go false b = refl

refuses : (σ : State) (t : List ℕ) (k : ℕ) → is_timestamp σ.timestamp ≡ false → next σ t k ≡ (refused 5, σ)
unfolding next
refuses σ t k h = rw (no_time σ (length t) h)

module _ (s part a e : List ℕ) where
  pub next_short : (length s < 128) ⊎ ((128 ≤ length s) × (length e < 176)) → left 9 s a e ≡ next_left s part a e
  unfolding next_left
  next_short (inl h) = rw (lt-ltb (length s) 128 h)
  next_short (inr h) = rw (le-ltb (length s) 128 h.0, lt-ltb (length e) 176 h.1)

  module _ (room : 128 ≤ length s) where
    module _ (room-too : 176 ≤ length e) (r : Option State) (got : r ≡ cond (leb 128 (length s)) (state_but_time (words_in 16 s)) None) where
      is : r ≡ state_but_time (words_in 16 s)
      is = rw (le-leb 128 (length s) room) at got

      past_short : next_in s a e part (state_in s) ≡ next_left s part a e
      unfolding next_left
      past_short = rw (le-ltb (length s) 128 room, le-ltb (length e) 176 room-too)

      spelt : (o : Option State) → state_but_time (words_in 16 s) ≡ o → state_in s ≡ if_timed o
      unfolding state_in
      spelt o h = if_timed_lem (words_in 16 s) o h

      pub next_no_state : r ≡ None → left 5 s a e ≡ next_left s part a e
      next_no_state h = sym (ap (next_in s a e part) (spelt None (sym is ∙ h))) ∙ past_short

      module _ (σ : State) (here : r ≡ Some σ) (x : (State × Result (Option Element) NextError)) (new : List ℕ) (answers : Answers (next σ part (length a)) a x new) where
        -- a step, told
        abbrev tells : Step → Left
        tells z = answers_in s a e z.0 z.1

        timed : state_in s ≡ cond (is_timestamp σ.timestamp) (Some σ) None
        timed = spelt (Some σ) (sym is ∙ here)

        -- next says 5 of a state whose timestamp is none
        past_next : tells (told x new) ≡ next_left s part a e
        past_next = ap tells answers.0 ∙ go (is_timestamp σ.timestamp) refl ∙ sym (ap (next_in s a e part) timed) ∙ past_short
          where
            go : (b : Bool) → is_timestamp σ.timestamp ≡ b → tells (next σ part (length a)) ≡ next_in s a e part (cond b (Some σ) None)
            go true h = refl
            go false h = ap tells (refuses σ part (length a) h)

        its_state : ((told x new).0 ≡ refused 5 → ⊥) → state_in s ≡ Some σ
        its_state other = go (is_timestamp σ.timestamp) refl timed
          where
            go : (b : Bool) → is_timestamp σ.timestamp ≡ b → state_in s ≡ cond b (Some σ) None → state_in s ≡ Some σ
            go true h f = f
            go false h f = absurd (other (ap (λ (z : Step). z.0) (answers.0 ∙ refuses σ part (length a) h)))

        -- an answer, with all that stays as it was
        module _ (o : Result (Option Element) NextError) (said : x.1 ≡ o) where
          says : told x new ≡ told (x.0, o) new
          says = ap (λ (q : Result (Option Element) NextError). told (x.0, q) new) said

          kept : new ≡ lent (told (x.0, o) new).0 a
          kept = answers.1 ∙ ap (λ (z : Step). lent z.0 a) (sym answers.0 ∙ says)

          tells_next : tells (told (x.0, o) new) ≡ next_left s part a e
          tells_next = ap tells (sym says) ∙ past_next

          refuses_next : (n : ℕ) → told (x.0, o) new ≡ (refused n, x.0) → left n s new e ≡ next_left s part a e
          refuses_next n h = ap (λ (l : List ℕ). left n s l e) (kept ∙ ap (λ (z : Step). lent z.0 a) h) ∙ sym (ap tells h) ∙ tells_next

          -- the state's bytes as they are left
          module _ (known : (i : ℕ) → Fits w8 (get_or s i 0)) (s₁ : List ℕ) (put : s₁ ≡ take 80 s ++ front (bytes_of (cursor_words x.0.remembered x.0.position)) (drop 80 s)) where
            put_state : ((told (x.0, o) new).0 ≡ refused 5 → ⊥) → (told (x.0, o) new).1 ≡ x.0 → s₁ ≡ front (state_bytes x.0) s
            put_state other h =
                let after : (next σ part (length a)).1 ≡ x.0 = ap (λ (z : Step). z.1) (sym answers.0 ∙ says) ∙ h in
                put ∙ moved_bytes s room known σ (its_state (λ k. other (ap (λ (z : Step). z.0) (sym says) ∙ k))) (cursor x.0) x.0
                (ap (λ (υ : State). moved σ (cursor υ)) (sym after) ∙ next_moved σ part (length a) ∙ after)

        module _ (known : (i : ℕ) → Fits w8 (get_or s i 0)) (s₁ : List ℕ) (put : s₁ ≡ take 80 s ++ front (bytes_of (cursor_words x.0.remembered x.0.position)) (drop 80 s)) where
          pub next_element : (z : Option Element) (y : Element) (e₁ : List ℕ) → x.1 ≡ Ok z → z ≡ Some y → e₁ ≡ front (element_bytes y) e → left 0 s₁ new e₁ ≡ next_left s part a e
          next_element z y e₁ k l g =
              let h : x.1 ≡ Ok (Some y) = k ∙ ap Ok l in
              let f = put_state (Ok (Some y)) h known s₁ put (λ k. let z : ◌≡◌ {A = ℕ} 0 1 = cc in absurd (omega arith)) refl in
              ap (λ (l : List ℕ). left 0 l new e₁) f
              ∙ ap (λ (l : List ℕ). left 0 (front (state_bytes x.0) s) new l) g
              ∙ ap (λ (l : List ℕ). left 0 (front (state_bytes x.0) s) l (front (element_bytes y) e)) (kept (Ok (Some y)) h)
              ∙ tells_next (Ok (Some y)) h

          pub next_end : (z : Option Element) → x.1 ≡ Ok z → z ≡ None → left 255 s₁ new e ≡ next_left s part a e
          next_end z k l =
              let h : x.1 ≡ Ok None = k ∙ ap Ok l in
              let f = put_state (Ok None) h known s₁ put (λ k. let z : ◌≡◌ {A = ℕ} 0 1 = cc in absurd (omega arith)) refl in
              ap (λ (l : List ℕ). left 255 l new e) f
              ∙ ap (λ (l : List ℕ). left 255 (front (state_bytes x.0) s) l e) (kept (Ok None) h)
              ∙ tells_next (Ok None) h

        pub next_refused : (z : NextError) (n : ℕ) → x.1 ≡ Err z → n ≡ number z → left n s new e ≡ next_left s part a e
        next_refused z n g h = rw h (refuses_next (Err z) g (number z) refl)
