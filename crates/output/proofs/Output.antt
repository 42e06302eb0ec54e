-- Laws of text written into a lent list.
use Rattle.std.specs.Prelude.{Ok, Err}
use mathlib.Core.Path.{◌≡◌, refl, sym, ap, ◌∙◌}
use mathlib.Core.List.{List, [], ◌∷◌, ◌++◌, append_assoc, append-nil}
use mathlib.Core.Bool.{Bool, true, false, cond}
use Prim.Native.Nat.{ℕ, suc, ◌+◌, ◌-◌, ◌≤◌, ◌<◌, min}
use native.Mathlib.Nat.{zero-add, add-zero, add_assoc}
use native.Mathlib.Numerals.{add-one}
use native.Mathlib.Omega.{arith}
use lib.ListN.{length, take, drop, set, drop_of_length-le, length-append, length-drop}
use lib.Seq.{paste, paste-zero, length-paste, take-paste, drop-paste, drop-drop, drop-append-add, take-append-add, take-append-le, take_all, take-length, set_split, append_snoc}
use borrow.Rule.Slice.PartMut.{put_mid}
use lib.Dec.{leb}
use borrow.Author.Tests.{le-leb, lt-leb, leb-true, leb-false}
use Rattle.output.specs.Output.{room, overwrite, Written, front, answer}
use Rattle.output.specs.declared.PutError.TheVariants.{TooShort}

-- a text has room as far as the list reaches, and no longer than it is
pub room_short : (out : List ℕ) (at : ℕ) (t : List ℕ) → length out ≤ at → room out at t ≡ 0
unfolding room
room_short out at t h = omega arith

pub room_inside : (out : List ℕ) (at : ℕ) (t : List ℕ) → at ≤ length out → at + room out at t ≤ length out
unfolding room
room_inside out at t h = omega arith

pub room_text : (out : List ℕ) (at : ℕ) (t : List ℕ) → room out at t ≤ length t
unfolding room
room_text out at t = omega arith

-- where the text fits, all of it has room
pub room_all : (out : List ℕ) (at : ℕ) (t : List ℕ) → at + length t ≤ length out → room out at t ≡ length t
unfolding room
room_all out at t h = omega arith

-- nothing is written behind the list's end
pub overwrite_short : (out : List ℕ) (at : ℕ) (t : List ℕ) → length out ≤ at → overwrite out at t ≡ out
unfolding overwrite
overwrite_short out at t h = rw (room_short out at t h) (sym (paste-zero out at t))

-- where the text fits, it stands there whole
pub overwrite_all : (out : List ℕ) (at : ℕ) (t : List ℕ) → at + length t ≤ length out
    → overwrite out at t ≡ take at out ++ t ++ drop (at + length t) out
unfolding overwrite
overwrite_all out at t h = rw (room_all out at t h, take-length t)

-- writing keeps the list's length
pub length_overwrite : (out : List ℕ) (at : ℕ) (t : List ℕ) → length (overwrite out at t) ≡ length out
unfolding overwrite
length_overwrite out at t = go (leb at (length out)) refl
  where
    go : (b : Bool) → leb at (length out) ≡ b → length (overwrite out at t) ≡ length out
    go true e = length-paste out at t (room out at t) (room_inside out at t (leb-true at (length out) e)) (room_text out at t)
    go false e = ap length (overwrite_short out at t (omega (arith, leb-false at (length out) e)))

-- what has room of two texts
room_two : (out : List ℕ) (at : ℕ) (t u : List ℕ)
    → room out at (t ++ u) ≡ room out at t + room (overwrite out at t) (at + room out at t) u
unfolding room
room_two out at t u = rw (length-append, length_overwrite out at t) (omega arith)

-- behind a text that was cut off there is no room
room_cut : (out : List ℕ) (at : ℕ) (t u : List ℕ) → room out at t < length t → room (overwrite out at t) (at + room out at t) u ≡ 0
unfolding room
room_cut out at t u h = rw (length_overwrite out at t) (omega arith)

-- the bytes of two texts that have room, one text behind the other
take_two : (n m : ℕ) (t u : List ℕ) → n ≤ length t → (n < length t → m ≡ 0) → take (n + m) (t ++ u) ≡ take n t ++ take m u
take_two n m t u h z = go (leb (length t) n) refl
  where
    go : (b : Bool) → leb (length t) n ≡ b → take (n + m) (t ++ u) ≡ take n t ++ take m u
    go true e =
        let k : n ≡ length t = omega (arith, leb-true (length t) n e) in rw (k, take-length t) (take-append-add t u m)
    go false e =
        let k : m ≡ 0 = z (leb-false (length t) n e) in rw k (simp (append-nil, add-zero) (take-append-le n t u h))

-- behind what was pasted the list is as it was
behind_paste : (d : List ℕ) (at n m : ℕ) (t : List ℕ) → at ≤ length d → n ≤ length t → drop (at + n + m) (paste d at t n) ≡ drop (at + n + m) d
behind_paste d at n m t h l =
    sym (drop-drop m (at + n) (paste d at t n)) ∙ ap (drop m) (drop-paste d at t n h l) ∙ drop-drop m (at + n) d

paste_two : (d : List ℕ) (at n m : ℕ) (t u : List ℕ) → at ≤ length d → n ≤ length t → (n < length t → m ≡ 0)
    → paste (paste d at t n) (at + n) u m ≡ paste d at (t ++ u) (n + m)
paste_two d at n m t u h l z =
    rw (take-paste d at t n h l, behind_paste d at n m t h l, take_two n m t u l z)
    (ap (λ (x : List ℕ). x ++ drop (at + n + m) d) (append_assoc (take at d) (take n t) (take m u)) ∙ rw add_assoc)

-- one text behind another is the two texts' append, whether or not they fit
pub overwrite_two : (out : List ℕ) (at : ℕ) (t u : List ℕ)
    → overwrite (overwrite out at t) (at + room out at t) u ≡ overwrite out at (t ++ u)
unfolding overwrite
overwrite_two out at t u = go (leb at (length out)) refl
  where
    go : (b : Bool) → leb at (length out) ≡ b → overwrite (overwrite out at t) (at + room out at t) u ≡ overwrite out at (t ++ u)
    go true e =
        paste_two out at (room out at t) (room (overwrite out at t) (at + room out at t) u) t u (leb-true at (length out) e) (room_text out at t) (room_cut out at t u)
        ∙ rw (← room_two out at t u)
    go false e =
        let h : length out ≤ at = omega (arith, leb-false at (length out) e) in
        rw (overwrite_short out at t h)
        (overwrite_short out (at + room out at t) u (omega arith) ∙ sym (overwrite_short out at (t ++ u) h))

-- a writer of t and then, at the place that it answered, a writer of u are a writer of t ++ u
pub then : {t u out o₁ o₂ : List ℕ} {at a b : ℕ} → Written t out at o₁ a → Written u o₁ a o₂ b → Written (t ++ u) out at o₂ b
then {t} {u} {out} {o₁} {o₂} {at} {a} {b} v w =
    record {
      list = w.list ∙ rw (v.list, v.place) (overwrite_two out at t u);
      place = w.place ∙ rw (v.place, v.list, room_two out at t u) (add_assoc at (room out at t) _);
    }

-- no room, or nothing to write
pub none_written : (t out : List ℕ) (at : ℕ) → room out at t ≡ 0 → Written t out at out at
unfolding overwrite
none_written t out at h = record { list = rw h (paste-zero out at t); place = omega arith }

pub no_room : (t out : List ℕ) (at : ℕ) → length out ≤ at → Written t out at out at
no_room t out at h = none_written t out at (room_short out at t h)

pub nothing : (out : List ℕ) (at : ℕ) → Written [] out at out at
nothing out at = none_written [] out at (omega (arith, room_text out at []))

-- Writing in a loop. The text was to stand at the place at₀ of out₀; the list is now out, and from the place at on the rest is left to write.
pub record Left (text out₀ : List ℕ) (at₀ : ℕ) (rest out : List ℕ) (at : ℕ) : Type 0 where
  pub list : overwrite out₀ at₀ text ≡ overwrite out at rest
  pub place : at₀ + room out₀ at₀ text ≡ at + room out at rest

-- at first all is left
pub all_left : (text out : List ℕ) (at : ℕ) → Left text out at text out at
all_left text out at = record { list = refl; place = refl }

-- a writer of what comes next
pub next_left_lem : {text out₀ t rest out o : List ℕ} {at₀ at a : ℕ} → Left text out₀ at₀ (t ++ rest) out at → Written t out at o a → Left text out₀ at₀ rest o a
next_left_lem {text} {out₀} {t} {rest} {out} {o} {at₀} {at} {a} l w =
    record {
      list = l.list ∙ rw (w.list, w.place) (sym (overwrite_two out at t rest));
      place = l.place ∙ rw (w.list, w.place, room_two out at t rest) (sym (add_assoc at (room out at t) _));
    }

-- a writer of all that is left, and nothing left
pub last_left : {text out₀ rest out o : List ℕ} {at₀ at a : ℕ} → Left text out₀ at₀ rest out at → Written rest out at o a → Written text out₀ at₀ o a
last_left l w = record { list = w.list ∙ sym l.list; place = w.place ∙ sym l.place }

pub none_left : {text out₀ out : List ℕ} {at₀ at : ℕ} → Left text out₀ at₀ [] out at → Written text out₀ at₀ out at
none_left {text} {out₀} {out} {at₀} {at} l = last_left l (nothing out at)

-- a writer that had room for all of its text
pub all_written : (t out new : List ℕ) (at a : ℕ) → Written t out at new a → at + length t ≤ length out
    → (new ≡ take at out ++ t ++ drop (at + length t) out) × (a ≡ at + length t)
all_written t out new at a w h = (w.list ∙ overwrite_all out at t h, omega (arith, w.place, room_all out at t h))

-- one byte
pub byte_written : (b : ℕ) (out : List ℕ) (at : ℕ) → at < length out → Written (b ∷ []) out at (set out at b) (at + 1)
byte_written b out at h =
    record {
      list = set_split out at b h ∙ sym (append_snoc (take at out) b (drop (suc at) out)) ∙ rw (← add-one) (sym (overwrite_all out at (b ∷ []) (omega arith)));
      place = omega (arith, room_all out at (b ∷ []) (omega arith));
    }

-- the first n bytes copied, as many as there is room for
pub bytes_written : (t out ys : List ℕ) (at n k : ℕ) → n ≡ min (length t) (length out - at) → k ≡ n → ys ≡ take n t
    → Written t out at (put_mid at k out ys) (at + n)
unfolding overwrite room
bytes_written t out ys at n k e z f =
    record { list = rw (z, f, drop-drop, e) (sym (append_assoc (take at out) _ _)); place = rw e }

-- a call that measured its text and refuses
module _ (t out : List ℕ) (n : ℕ) (e : n ≡ length t) where
  pub too_short : length out < n → (Err TooShort) ≡ answer t out
  unfolding answer
  too_short h = simp (← e, lt-leb n (length out) h)

  pub kept : length out < n → out ≡ front t out
  unfolding front
  kept h = simp (← e, lt-leb n (length out) h)

  -- or lets a writer run from the list's start
  pub wrote : (new : List ℕ) (a : ℕ) → n ≤ length out → Written t out 0 new a → Ok a ≡ answer t out
  unfolding answer
  wrote new a h w = rw (z, le-leb (length t) (length out) (omega arith))
    where
      z : a ≡ length t
      z = omega (arith, w.place, room_all out 0 t (omega arith))

  pub whole : (new : List ℕ) (a : ℕ) → n ≤ length out → Written t out 0 new a → new ≡ front t out
  unfolding front
  whole new a h w =
      w.list ∙ overwrite_all out 0 t (omega arith) ∙ simp (zero-add, le-leb (length t) (length out) (omega arith))

-- a text whose beginning stands there already: what is behind it is written
pub front_behind : (a t out : List ℕ) → front (a ++ t) (a ++ out) ≡ a ++ front t out
unfolding front
front_behind a t out = rw (length-append a t, length-append a out) (go (leb (length t) (length out)) refl)
  where
    go : (b : Bool) → leb (length t) (length out) ≡ b
        → cond (leb (length a + length t) (length a + length out)) (a ++ t ++ drop (length a + length t) (a ++ out)) (a ++ out) ≡ a ++ cond (leb (length t) (length out)) (t ++ drop (length t) out) out
    go true e =
        let h : length t ≤ length out = leb-true (length t) (length out) e in
        rw (e, le-leb (length a + length t) (length a + length out) (omega arith), drop-append-add a out (length t)) (append_assoc a t (drop (length t) out))
    go false e =
        let h : length out < length t = leb-false (length t) (length out) e in
        rw (e, lt-leb (length a + length t) (length a + length out) (omega arith))

-- a text put to the front of what stands behind n
pub front_part : (t s new : List ℕ) (n : ℕ) → new ≡ front t (take (length s - n) (drop n s)) → take n s ++ (new ++ drop (length s - n) (drop n s)) ≡ take n s ++ front t (drop n s)
front_part t s new n e =
    let all : length (drop n s) ≤ length s - n = omega (arith, length-drop n s) in
    rw (e, take_all (length s - n) (drop n s) all, drop_of_length-le (drop n s) all, append-nil)
