-- Laws of character edges.
use mathlib.Core.Path.{◌≡◌, refl, sym, ap, ◌∙◌}
use mathlib.Core.List.{List, [], ◌∷◌, ◌++◌, append-nil, map, map-append, flatten}
use mathlib.Core.Bool.{Bool, true, false, not, ◌&&◌, ◌||◌, or-false, or-true}
use mathlib.Core.Logic.{◌⊎◌, inl, inr, ⊎_elim}
use Prim.Native.Nat.{ℕ, zero, suc, ◌+◌, ◌-◌, ◌≤◌, ◌<◌}
use native.Mathlib.Omega.{arith}
use lib.Dec.{leb, ltb, eqb}
use lib.ListN.{length, get_or, take, drop, take-append-drop, length-append, drop_of_length-le}
use lib.Seq.{take-add, take_at, length-take-le, drop-cons, get_or-append_seam}
use borrow.Author.Tests.{lt-ltb, le-ltb, le-leb, lt-leb, ne_eqb, eq-eqb, eqb-true, leb-true, ltb-true, not-true}
use Rattle.utf8.specs.Utf8.{is_one, is_tail, chars_from, chars, is_char, all, readable, is_scalar, encode, encode_all}
use Rattle.utf8.specs.Edge.{is_edge, has_slice}
use Rattle.utf8.proofs.TestLaws.{both, either, upto}
use Rattle.utf8.proofs.ListLaws.{all_append, all_parts, all_at, flatten_append, map_take}
use Rattle.utf8.proofs.CharLaws.{Begins, char_begins}
use Rattle.utf8.proofs.CharsLaws.{chars_append, flatten_chars}
use Rattle.utf8.proofs.EncodeLaws.{Encodes, scalar_encodes, encode_chars}

-- the test of is_edge: inside the text, and past its last byte
pub edge_inside : (s : List ℕ) (at : ℕ) (t : Bool) → at < length s → t ≡ is_tail (get_or s at 0) → (eqb at 0 || not t) ≡ is_edge s at
unfolding is_edge
edge_inside s at t h e = simp (← e, ne_eqb at (length s) (λ z. omega arith), lt-ltb at (length s) h, or-false)

pub edge_start : (s : List ℕ) (at : ℕ) → at ≡ 0 → eqb at 0 ≡ is_edge s at
unfolding is_edge
edge_start s at z = let e : eqb at 0 ≡ true = eq-eqb at 0 z in simp e

pub edge_middle : (s : List ℕ) (at : ℕ) (t : Bool) → at < length s → (at ≡ 0 → ⊥) → t ≡ is_tail (get_or s at 0) → not t ≡ is_edge s at
edge_middle s at t h n e = ap (λ b. b || not t) (sym (ne_eqb at 0 n)) ∙ edge_inside s at t h e

pub edge_end : (s : List ℕ) (at : ℕ) → length s ≤ at → eqb at (length s) ≡ is_edge s at
unfolding is_edge
edge_end s at h = simp (le-ltb at (length s) h) (go (eqb at 0) refl)
  where
    go : (t : Bool) → eqb at 0 ≡ t → eqb at (length s) ≡ (t || eqb at (length s) || false)
    go true e = eq-eqb at (length s) (omega (arith, eqb-true at 0 e))
    go false e = sym (or-false (eqb at (length s)))

-- in an ASCII text every place is an edge, so that any slice exists
ascii_edge : (s : List ℕ) (at : ℕ) → all is_one s ≡ true → at ≤ length s → is_edge s at ≡ true
ascii_edge s at h l = upto (length s) at (λ g. sym (edge_end s at g) ∙ eq-eqb at (length s) (omega arith)) inside
  where
    inside : at < length s → is_edge s at ≡ true
    inside g =
        let low : get_or s at 0 ≤ 0x7F = leb-true (get_or s at 0) 0x7F (all_at is_one s at 0 h g) in
        sym (edge_inside s at false g (sym (rw (lt-leb 0x80 (get_or s at 0) (omega arith))))) ∙ or-true (eqb at 0)

pub ascii_slice : (s : List ℕ) (a b : ℕ) → all is_one s ≡ true → a ≤ b → b ≤ length s → has_slice s a b ≡ true
ascii_slice s a b h l m = rw (le-leb a b l, le-leb b (length s) m, ascii_edge s a h (omega arith), ascii_edge s b h m)

-- an edge lies in the text, and is its start, or what follows begins with no UTF8-tail
pub edge_begins : (s : List ℕ) (at : ℕ) → is_edge s at ≡ true → (at ≤ length s) × ((at ≡ 0) ⊎ Begins (drop at s))
unfolding is_edge
edge_begins s at e =
    ⊎_elim
    (λ x. ⊎_elim start last (either (eqb at 0) (eqb at (length s)) x))
    (λ x. middle (both (ltb at (length s)) (not (is_tail (get_or s at 0))) x))
    (either (eqb at 0 || eqb at (length s)) (ltb at (length s) && not (is_tail (get_or s at 0))) e)
  where
    start : eqb at 0 ≡ true → (at ≤ length s) × ((at ≡ 0) ⊎ Begins (drop at s))
    start y = (omega (arith, eqb-true at 0 y), inl (eqb-true at 0 y))

    last : eqb at (length s) ≡ true → (at ≤ length s) × ((at ≡ 0) ⊎ Begins (drop at s))
    last y =
        let z : at ≡ length s = eqb-true at (length s) y in
        (omega arith, inr (rw (drop_of_length-le s {i = at} (omega arith)) tt))

    middle : (ltb at (length s) ≡ true) × (not (is_tail (get_or s at 0)) ≡ true) → (at ≤ length s) × ((at ≡ 0) ⊎ Begins (drop at s))
    middle b =
        let h : at < length s = ltb-true at (length s) b.0 in
        (omega arith, inr (rw (drop-cons s at 0 h) (not-true (is_tail (get_or s at 0)) b.1)))

pub begins_edge : (q w : List ℕ) → Begins w → is_edge (q ++ w) (length q) ≡ true
unfolding is_edge
begins_edge q [] t = rw append-nil (simp (eq-eqb (length q) (length q) refl, or-true))
begins_edge q (x ∷ w) t =
    let e : get_or (q ++ (x ∷ w)) (length q) 0 ≡ x = get_or-append_seam q x w 0 in
    simp (e, t, lt-ltb (length q) (length (q ++ (x ∷ w))) (simp length-append (omega arith)), or-true)

-- a text parted at an edge: the characters of both parts
pub parted_chars : (q w : List ℕ) → (length q ≡ 0) ⊎ Begins w → chars (q ++ w) ≡ chars q ++ chars w
unfolding chars_from
parted_chars q w e = ⊎_elim (none q) (chars_append q w) e
  where
    none : (q : List ℕ) → length q ≡ 0 → chars (q ++ w) ≡ chars q ++ chars w
    none [] z = refl
    none (b ∷ q) z = absurd (omega arith)

module _ (s : List ℕ) (at : ℕ) (e : is_edge s at ≡ true) where
  pub edge_chars : chars s ≡ chars (take at s) ++ chars (drop at s)
  edge_chars =
      ap chars (sym (take-append-drop at s))
      ∙ parted_chars (take at s) (drop at s) (⊎_elim (λ z. inl (rw z refl)) (λ t. inr t) (edge_begins s at e).1)

  pub edge_readable : readable s ≡ (readable (take at s) && readable (drop at s))
  edge_readable = ap (all is_char) edge_chars ∙ all_append is_char (chars (take at s)) (chars (drop at s))

-- a slice parts a readable text into readable parts
begins_take : (n : ℕ) (w : List ℕ) → Begins w → Begins (take n w)
begins_take zero w t = tt
begins_take (suc n) [] t = tt
begins_take (suc n) (x ∷ w) t = t

pub slice_readable : (s : List ℕ) (a b : ℕ) → has_slice s a b ≡ true → readable s ≡ true
    → (readable (take a s) ≡ true) × (readable (take (b - a) (drop a s)) ≡ true) × (readable (drop b s) ≡ true)
slice_readable s a b e h =
    let e₁ = both (leb a b && leb b (length s) && is_edge s a) (is_edge s b) e in
    let e₂ = both (leb a b && leb b (length s)) (is_edge s a) e₁.0 in
    let l : a ≤ b = leb-true a b (both (leb a b) (leb b (length s)) e₂.0).0 in
    let r = both (readable (take b s)) (readable (drop b s)) (sym (edge_readable s b e₁.1) ∙ h) in
    let m : a + (b - a) ≡ b = omega arith in
    let c : chars (take b s) ≡ chars (take a s) ++ chars (take (b - a) (drop a s)) =
    ap (λ k. chars (take k s)) (sym m)
    ∙ ap chars (take-add a (b - a) s)
    ∙ parted_chars (take a s) (take (b - a) (drop a s)) (⊎_elim (λ z. inl (rw z refl)) (λ t. inr (begins_take (b - a) (drop a s) t)) (edge_begins s a e₂.1).1) in
    let q = all_parts is_char (chars (take a s)) (chars (take (b - a) (drop a s))) (ap (all is_char) (sym c) ∙ r.0) in
    (q.0, q.1, r.1)

-- of readable text the edges are the places between the decoded characters
module _ (cs : List ℕ) (h : all is_scalar cs ≡ true) where
  begins_encoded : (ds : List ℕ) → all is_scalar ds ≡ true → Begins (encode_all ds)
  unfolding all flatten
  begins_encoded [] h = tt
  begins_encoded (d ∷ ds) h =
      let e : Encodes d = scalar_encodes d (both (is_scalar d) (all is_scalar ds) h).0 in
      char_begins (encode_all (d ∷ ds)) (omega (arith, e.char (encode_all ds), e.some_byte))

  pub decoded_edge : (n : ℕ) → is_edge (encode_all cs) (length (encode_all (take n cs))) ≡ true
  decoded_edge n =
      let w : encode_all cs ≡ encode_all (take n cs) ++ encode_all (drop n cs) =
      ap encode_all (sym (take-append-drop n cs)) ∙ ap flatten (map-append encode (take n cs) (drop n cs)) ∙ flatten_append (map encode (take n cs)) (map encode (drop n cs)) in
      ap (λ s. is_edge s (length (encode_all (take n cs)))) w
      ∙ begins_edge (encode_all (take n cs)) (encode_all (drop n cs)) (begins_encoded (drop n cs) (all_parts is_scalar (take n cs) (drop n cs) (ap (all is_scalar) (take-append-drop n cs) ∙ h)).1)

  pub edge_decoded : (at : ℕ) → is_edge (encode_all cs) at ≡ true
      → (n : ℕ) × (take at (encode_all cs) ≡ encode_all (take n cs)) × (at ≡ length (encode_all (take n cs)))
  edge_decoded at e = (n, t, sym (length-take-le at s (edge_begins s at e).0) ∙ ap length t)
    where
      s : List ℕ
      s = encode_all cs

      n : ℕ
      n = length (chars (take at s))

      t : take at s ≡ encode_all (take n cs)
      t =
          sym (flatten_chars (take at s))
          ∙ ap flatten
          (sym (take_at (chars (take at s)) (chars (drop at s)) n refl)
          ∙ ap (take n) (sym (edge_chars s at e) ∙ encode_chars cs h)
          ∙ map_take encode n cs)

-- what the test of an edge uses
pub ruleset edge_laws = (edge_start, edge_middle, edge_end)
