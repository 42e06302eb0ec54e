-- Laws of the lines of a text.
use Prim.Native.Nat.{ℕ, zero, suc, ◌+◌, ◌-◌, ◌*◌, ◌/◌, ◌≤◌, ◌<◌, min}
use Rattle.std.specs.Prelude.{Option, Some, None}
use Rattle.std.specs.List.{position, position_from}
use Rattle.std.proofs.lemmas.Iterator.Adapters.{position_from-zero}
use Rattle.std.specs.Simd.{first_chunks}
use mathlib.Core.Path.{◌≡◌, refl, sym, ap, subst, ◌∙◌}
use mathlib.Core.Bool.{Bool, true, false, cond, not}
use mathlib.Core.List.{List, [], ◌∷◌, ◌++◌, map, flatten, head_d, append-nil, append_assoc, nil≢cons, head-eq_of_cons-eq, tail-eq_of_cons-eq}
use native.Mathlib.Omega.{arith}
use lib.ListN.{length, get_or, take, drop, length-append, length-take, length-drop, take-append-drop, drop_of_length-le}
use lib.Seq.{take_all, take-add, take_at, drop-drop}
use native.Mathlib.Nat.{add_assoc}
use lib.Dec.{leb}
use borrow.Author.Tests.{eq-eqb, ne_eqb, eqb-true, eqb-false, leb-true, leb-false}
use Rattle.scan.specs.Lists.{onto, all, take_while, drop_while, end_while}
use Rattle.scan.specs.Lines.{is_feed, not_feed, lines, line_end, LineAt, Cut, Cuts}
use Rattle.scan.proofs.ListLaws.{flatten_onto, take_while_drop_while, end_while_inside, scan_stop, scan_on, all_before, end_while_over, end_while_past, all_append}

-- the scan for a line feed, byte by byte
module _ (s : List ℕ) (at i : ℕ) (e : end_while not_feed s at ≡ end_while not_feed s i) where
  pub feed_here : i < length s → get_or s i 0 ≡ 10 → i ≡ end_while not_feed s at
  feed_here h y = scan_stop not_feed s at i e 0 h (simp (eq-eqb (get_or s i 0) 10 y))

  pub feed_later : i < length s → (get_or s i 0 ≡ 10 → ⊥) → end_while not_feed s at ≡ end_while not_feed s (i + 1)
  feed_later h n = scan_on not_feed s at i e 0 h (simp (ne_eqb (get_or s i 0) 10 n))

-- the least place of a line feed, with the first k bytes seen; 64 as long as none has come
pub record Least (s : List ℕ) (at k first : ℕ) : Type 0 where
  pub found : first < k → at + first ≡ end_while not_feed s at
  pub none : k ≤ first → (first ≡ 64) × (end_while not_feed s at ≡ end_while not_feed s (at + k))

module _ (s : List ℕ) (at k first : ℕ) (e : Least s at k first) where
  -- with the next byte
  pub least_more : at + 64 ≤ length s → k < 64 → (p r : ℕ) → p ≡ cond (is_feed (get_or s (at + k) 0)) k 64 → r ≡ min first p → Least s at (k + 1) r
  least_more h l p r q m = go (is_feed (get_or s (at + k) 0)) refl (leb k first) refl q
    where
      seen : first < k → r ≡ first → Least s at (k + 1) r
      seen u z = record { found = λ x. rw z (e.found u); none = λ x. absurd (omega arith) }

      go : (z : Bool) → is_feed (get_or s (at + k) 0) ≡ z → (u : Bool) → leb k first ≡ u → p ≡ cond z k 64 → Least s at (k + 1) r
      go true f true u q =
          let n = e.none (leb-true k first u) in
          let y = feed_here s at (at + k) n.1 (omega arith) (eqb-true (get_or s (at + k) 0) 10 f) in
          record { found = λ x. omega (arith, n.0, y); none = λ x. absurd (omega (arith, n.0)) }
      go false f true u q =
          let n = e.none (leb-true k first u) in
          record {
            found = λ x. absurd (omega (arith, n.0));
            none = λ x. (omega (arith, n.0), feed_later s at (at + k) n.1 (omega arith) (eqb-false (get_or s (at + k) 0) 10 f) ∙ ap (end_while not_feed s) (add_assoc at k 1));
          }
      go true f false u q = seen (leb-false k first u) (omega (arith, leb-false k first u))
      go false f false u q = seen (leb-false k first u) (omega (arith, leb-false k first u))

-- a chunk of 64 bytes with a line feed, and none in front of it
record Chunk (t : List ℕ) (n i : ℕ) : Type 0 where
  inside : i < n
  front : all not_feed (take (64 * i) t) ≡ true
  here : all not_feed (take 64 (drop (64 * i) t)) ≡ false

abbrev ChunkIn : List ℕ → ℕ → ℕ → Option ℕ → Type 0
ChunkIn t n j (Some k) = (i : ℕ) × (k ≡ j + i) × Chunk t n i
ChunkIn t n j None = all not_feed (take (64 * n) t) ≡ true

abbrev has_feed : List ℕ → Bool
has_feed c = not (all not_feed c)

chunk_over : (t : List ℕ) (m : ℕ) → all not_feed (take 64 t) ≡ true → all not_feed (take (64 * m) (drop 64 t)) ≡ true → all not_feed (take (64 * suc m) t) ≡ true
chunk_over t m f g =
    let k : 64 * suc m ≡ 64 + 64 * m = omega arith in
    rw (k, take-add, all_append, f, g) refl

chunk_in : (n j : ℕ) (t : List ℕ) → ChunkIn t n j (position_from has_feed j (first_chunks 64 n t))
unfolding all
chunk_in zero j t = refl
chunk_in (suc n) j t = go (all not_feed (take 64 t)) refl (position_from has_feed (j + 1) (first_chunks 64 n (drop 64 t))) (chunk_in n (j + 1) (drop 64 t))
  where
    go : (z : Bool) → all not_feed (take 64 t) ≡ z → (r : Option ℕ) → ChunkIn (drop 64 t) n (j + 1) r → ChunkIn t (suc n) j (cond (not z) (Some j) r)
    go false e r h = (0, omega arith, record { inside = omega arith; front = refl; here = e })
    go true e None h = chunk_over t n e h
    go true e (Some k) (i, q, h) =
        let m : 64 * suc i ≡ 64 + 64 * i = omega arith in
        let w : drop (64 * suc i) t ≡ drop (64 * i) (drop 64 t) = rw (m, drop-drop) refl in
        (suc i, omega arith, record { inside = omega (arith, h.inside); front = chunk_over t i e h.front; here = rw w h.here })

-- the chunks of a text from a place on
module _ (s : List ℕ) (at : ℕ) (h : at < length s) (cs : List (List ℕ)) (f : Option ℕ) where
  abbrev left : List ℕ
  left = take (length s - at) (drop at s)

  left_all : left ≡ drop at s
  left_all = take_all (length s - at) (drop at s) (rw length-drop (omega arith))

  left_size : length left ≡ length s - at
  left_size = ap length left_all ∙ length-drop at s

  module _ (q : cs ≡ first_chunks 64 (length left / 64) left) (u : f ≡ position has_feed cs) where
    found : ChunkIn (drop at s) (length left / 64) 0 f
    found =
        let e : f ≡ position_from has_feed 0 (first_chunks 64 (length left / 64) left) =
        u ∙ ap (position has_feed) q ∙ position_from-zero has_feed (first_chunks 64 (length left / 64) left) in
        rw e (subst (λ (t : List ℕ). ChunkIn t (length left / 64) 0 (position_from has_feed 0 (first_chunks 64 (length left / 64) left))) left_all (chunk_in (length left / 64) 0 left))

    feed_in : (i r : ℕ) → Chunk (drop at s) (length left / 64) i → r ≡ min 64 (length (take_while not_feed (drop (at + 64 * i) s))) → at + 64 * i + r ≡ end_while not_feed s at
    feed_in i r w m =
        let over = end_while_over not_feed s (64 * i) at 0 (omega (arith, w.inside, left_size)) w.front in
        let d : drop (64 * i) (drop at s) ≡ drop (at + 64 * i) s = drop-drop (64 * i) at s in
        let b : length (take_while not_feed (drop (at + 64 * i) s)) < 64 = all_before not_feed 64 (drop (at + 64 * i) s) (rw d at w.here) in
        omega (arith, over, b, m)

    pub feed_chunk : (k r : ℕ) → f ≡ Some k → r ≡ min 64 (length (take_while not_feed (drop (at + 64 * k) s))) → at + 64 * k + r ≡ end_while not_feed s at
    feed_chunk k r e m =
        let (i, y, w) : ChunkIn (drop at s) (length left / 64) 0 (Some k) = rw e at found in
        let z : i ≡ k = omega arith in
        feed_in k r (rw z at w) m

    pub feed_rest : (e : ℕ) → length cs ≡ length left / 64 → f ≡ None → e ≡ end_while not_feed s (at + 64 * length cs) → e ≡ end_while not_feed s at
    feed_rest e l n m =
        let w : ChunkIn (drop at s) (length left / 64) 0 None = rw n at found in
        m ∙ sym (end_while_over not_feed s (64 * length cs) at 0 (omega (arith, l, left_size)) (rw l w))

pub feed_past : (s : List ℕ) (at : ℕ) → length s ≤ at → at ≡ end_while not_feed s at
feed_past s at h = sym (end_while_past not_feed s at h)

pub ruleset chunk_laws = (feed_past, feed_chunk, feed_rest)

-- the lines, put together, are the text
pub flatten_lines : (s : List ℕ) → flatten (lines s) ≡ s
unfolding lines flatten
flatten_lines [] = refl
flatten_lines (b ∷ s) = go (is_feed b) (flatten_lines s)
  where
    go : (z : Bool) → flatten (lines s) ≡ s → flatten (cond z ((b ∷ []) ∷ lines s) (onto b (lines s))) ≡ b ∷ s
    go true e = rw e
    go false e = flatten_onto b (lines s) ∙ rw e

-- the first line, and behind it the lines go on
abbrev first : List ℕ → List ℕ
first s = head_d (lines s) []

first_line : (s : List ℕ) → 0 < length s → lines s ≡ first s ∷ lines (drop (length (first s)) s)
unfolding lines onto head_d
first_line [] h = absurd (omega arith)
first_line (b ∷ []) h = go (is_feed b)
  where
    go : (z : Bool) → cond z ((b ∷ []) ∷ []) ((b ∷ []) ∷ [])
        ≡ head_d (cond z ((b ∷ []) ∷ []) ((b ∷ []) ∷ [])) [] ∷ lines (drop (length (head_d (cond z ((b ∷ []) ∷ []) ((b ∷ []) ∷ [])) [])) (b ∷ []))
    go true = refl
    go false = refl
first_line (b ∷ c ∷ s) h = go (is_feed b) (c ∷ s) (lines (c ∷ s)) refl (first_line (c ∷ s) (omega arith))
  where
    go : (z : Bool) (u : List ℕ) (r : List (List ℕ)) → lines u ≡ r → r ≡ head_d r [] ∷ lines (drop (length (head_d r [])) u)
        → cond z ((b ∷ []) ∷ r) (onto b r)
        ≡ head_d (cond z ((b ∷ []) ∷ r) (onto b r)) [] ∷ lines (drop (length (head_d (cond z ((b ∷ []) ∷ r) (onto b r)) [])) (b ∷ u))
    go true u r f e = rw f
    go false u [] f e = absurd (nil≢cons e)
    go false u (w ∷ l) f e = let t : l ≡ lines (drop (length w) u) = tail-eq_of_cons-eq e in rw t

-- the first line runs up to the first line feed, and through it where there is one
head_onto : (b : ℕ) (l : List (List ℕ)) → head_d (onto b l) [] ≡ b ∷ head_d l []
unfolding onto head_d
head_onto b [] = refl
head_onto b (w ∷ l) = refl

first_is : (s : List ℕ) → first s ≡ take_while not_feed s ++ take 1 (drop_while not_feed s)
unfolding lines head_d take_while drop_while
first_is [] = refl
first_is (b ∷ s) = go (is_feed b) (first_is s)
  where
    go : (z : Bool) → first s ≡ take_while not_feed s ++ take 1 (drop_while not_feed s)
        → head_d (cond z ((b ∷ []) ∷ lines s) (onto b (lines s))) [] ≡ cond (not z) (b ∷ take_while not_feed s) [] ++ take 1 (cond (not z) (drop_while not_feed s) (b ∷ s))
    go true e = refl
    go false e = head_onto b (lines s) ∙ rw e

first_length : (s : List ℕ) → length (first s) ≡ length (take_while not_feed s) + min 1 (length s - length (take_while not_feed s))
first_length s = rw first_is (simp (length-append, length-take) (omega (arith, simp length-append at (ap length (take_while_drop_while not_feed s)))))

-- the line that starts at i ends behind the next line feed, else at the text's end
module _ (s : List ℕ) (i : ℕ) where
  end_at : line_end s i ≡ end_while not_feed s i + min 1 (length s - end_while not_feed s i)
  unfolding line_end
  end_at = rw (first_length (drop i s), length-drop) (omega arith)

  pub end_feed : (e : ℕ) → e ≡ end_while not_feed s i → e < length s → e + 1 ≡ line_end s i
  end_feed e q h = omega (arith, end_at)

  pub end_text : (e : ℕ) → e ≡ end_while not_feed s i → length s ≤ e → e ≡ line_end s i
  end_text e q h = omega (arith, end_at)

  pub line_end_inside : i ≤ length s → line_end s i ≤ length s
  line_end_inside h = omega (arith, end_at, end_while_inside not_feed s i h)

  pub line_end_after : i < length s → i < line_end s i
  line_end_after h = omega (arith, end_at)

first_take : (s : List ℕ) → take (length (first s)) s ≡ first s
first_take s = ap (take (length (first s))) (sym whole) ∙ take_at (first s) (drop 1 (drop_while not_feed s)) (length (first s)) refl
  where
    whole : first s ++ drop 1 (drop_while not_feed s) ≡ s
    whole = rw (first_is, append_assoc, take-append-drop, take_while_drop_while)

-- the lines from i on are the bytes up to the line's end, and the lines from there on
pub line_at : (s : List ℕ) (i : ℕ) → i < length s → LineAt s i (line_end s i)
unfolding line_end
line_at s i h = first_line (drop i s) (rw length-drop (omega arith)) ∙ rw (size, first_take, drop-drop)
  where
    size : i + length (first (drop i s)) - i ≡ length (first (drop i s))
    size = omega arith

-- no lines from the text's end on
pub no_lines : (s : List ℕ) (i : ℕ) → length s ≤ i → lines (drop i s) ≡ []
unfolding lines
no_lines s i h = rw (drop_of_length-le s h)

-- behind a text that is empty or ends in a line feed the lines go on
pub lines_append : (a b : List ℕ) → Cut a → lines (a ++ b) ≡ lines a ++ lines b
unfolding lines onto Cut
lines_append [] b h = refl
lines_append (x ∷ []) b h = simp (eq-eqb x 10 h)
lines_append (x ∷ c ∷ s) b h = go (is_feed x) (lines (c ∷ s)) (lines (c ∷ (s ++ b))) (first_line (c ∷ s) (omega arith)) (lines_append (c ∷ s) b h)
  where
    go : (z : Bool) (r q : List (List ℕ)) → r ≡ head_d r [] ∷ lines (drop (length (head_d r [])) (c ∷ s)) → q ≡ r ++ lines b
        → cond z ((x ∷ []) ∷ q) (onto x q) ≡ cond z ((x ∷ []) ∷ r) (onto x r) ++ lines b
    go true r q w e = rw e
    go false [] q w e = absurd (nil≢cons w)
    go false (y ∷ l) q w e = rw e

-- the lines of texts of which each but the last is so are those of the joined text
pub lines_flatten : (ps : List (List ℕ)) → Cuts ps → flatten (map lines ps) ≡ lines (flatten ps)
unfolding flatten Cuts lines
lines_flatten [] h = refl
lines_flatten (a ∷ []) h = append-nil (lines a) ∙ sym (ap lines (append-nil a))
lines_flatten (a ∷ b ∷ ps) h = rw (lines_flatten (b ∷ ps) h.1) (sym (lines_append a (b ++ flatten ps) h.0))

-- what is left of some lines is the lines of what is left of the text
pub lines_last : (a : List (List ℕ)) (s : List ℕ) (b : List (List ℕ)) → lines s ≡ a ++ b → lines (flatten b) ≡ b
unfolding lines flatten
lines_last [] s b e = rw (← e, flatten_lines s)
lines_last (x ∷ a) s b e = lines_last a (drop (length (first s)) s) b (tail-eq_of_cons-eq (sym (first_line s (some s e)) ∙ e))
  where
    some : (s : List ℕ) → lines s ≡ x ∷ (a ++ b) → 0 < length s
    some [] e = absurd (nil≢cons e)
    some (y ∷ s) e = omega arith

-- a line is one line by itself
pub line_alone : (t l : List ℕ) (ls : List (List ℕ)) → lines t ≡ l ∷ ls → lines l ≡ l ∷ []
unfolding lines onto
line_alone [] l ls e = absurd (nil≢cons e)
line_alone (b ∷ s) l ls e = go (is_feed b) refl (lines s) (line_alone s) e
  where
    short : (z : Bool) → cond z ((b ∷ []) ∷ []) (onto b []) ≡ (b ∷ []) ∷ []
    short true = refl
    short false = refl

    go : (z : Bool) → is_feed b ≡ z → (r : List (List ℕ)) → ((w : List ℕ) (k : List (List ℕ)) → r ≡ w ∷ k → lines w ≡ w ∷ []) → cond z ((b ∷ []) ∷ r) (onto b r) ≡ l ∷ ls → lines l ≡ l ∷ []
    go true f r ih e = rw (← head-eq_of_cons-eq e) (short (is_feed b))
    go false f [] ih e = rw (← head-eq_of_cons-eq e) (short (is_feed b))
    go false f (w ∷ k) ih e = rw (← head-eq_of_cons-eq e) (rw (f, ih w k refl))
