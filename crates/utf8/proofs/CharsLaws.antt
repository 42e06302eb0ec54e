-- Laws of a text cut into its characters. They hold for any bytes.
use mathlib.Core.Path.{◌≡◌, refl, sym, ap, ◌∙◌}
use mathlib.Core.List.{List, [], ◌∷◌, ◌++◌, append_assoc, flatten}
use Prim.Native.Nat.{ℕ, zero, suc, ◌-◌, ◌≤◌, ◌<◌, max}
use native.Mathlib.Omega.{arith}
use lib.ListN.{length, take, drop, take-append-drop, length-append, length-take}
use lib.Seq.{take_at, drop_at, take-append-le, length-take-le}
use Rattle.utf8.specs.Utf8.{char_len, piece_len, chars_from, chars}
use Rattle.utf8.proofs.ListLaws.{flatten_append}
use Rattle.utf8.proofs.CharLaws.{Begins, char_le, char_ends, char_cut, piece_pos, piece_le}

-- what is behind the first n bytes of b ∷ s, n at least 1
behind_one : (n b : ℕ) (s : List ℕ) → 0 < n → drop (n - 1) s ≡ drop n (b ∷ s)
behind_one zero b s h = absurd (omega arith)
behind_one (suc n) b s h = let e : suc n - 1 ≡ n = omega arith in simp e

-- the characters from a place on are those of the text behind it
chars_from_lem : (s : List ℕ) (n : ℕ) → chars_from n s ≡ chars (drop n s)
unfolding chars_from
chars_from_lem [] zero = refl
chars_from_lem [] (suc n) = refl
chars_from_lem (b ∷ s) zero = refl
chars_from_lem (b ∷ s) (suc n) = chars_from_lem s n

-- the first character, and those of the rest
pub chars_more : (s : List ℕ) → 0 < length s → chars s ≡ take (piece_len s) s ∷ chars (drop (piece_len s) s)
unfolding chars_from
chars_more [] h = absurd (omega arith)
chars_more (b ∷ s) h =
    ap (λ l. take (piece_len (b ∷ s)) (b ∷ s) ∷ l) (chars_from_lem s (piece_len (b ∷ s) - 1) ∙ ap chars (behind_one (piece_len (b ∷ s)) b s (piece_pos (b ∷ s))))

-- joined again they are the text
pub flatten_chars : (s : List ℕ) → flatten (chars s) ≡ s
unfolding chars_from flatten
flatten_chars s = go s 0
  where
    go : (s : List ℕ) (n : ℕ) → flatten (chars_from n s) ≡ drop n s
    go [] zero = refl
    go [] (suc n) = refl
    go (b ∷ s) zero =
        ap (λ l. take (piece_len (b ∷ s)) (b ∷ s) ++ l) (go s (piece_len (b ∷ s) - 1) ∙ behind_one (piece_len (b ∷ s)) b s (piece_pos (b ∷ s)))
        ∙ take-append-drop (piece_len (b ∷ s)) (b ∷ s)
    go (b ∷ s) (suc n) = go s n

-- a text parted in front of a byte that is no UTF8-tail: the characters of both parts
pub chars_append : (q w : List ℕ) → Begins w → chars (q ++ w) ≡ chars q ++ chars w
unfolding chars_from
chars_append q w t = go q 0 (omega arith)
  where
    go : (q : List ℕ) (n : ℕ) → n ≤ length q → chars_from n (q ++ w) ≡ chars_from n q ++ chars w
    go [] zero h = refl
    go [] (suc n) h = absurd (omega arith)
    go (b ∷ q) zero h =
        let n = piece_len (b ∷ q) in
        let e : char_len ((b ∷ q) ++ w) ≡ char_len (b ∷ q) = char_ends q w b t in
        let l : n ≤ length (b ∷ q) = piece_le (b ∷ q) (omega arith) in
        ap (λ k. take (max 1 k) ((b ∷ q) ++ w) ∷ chars_from (max 1 k - 1) (q ++ w)) e
        ∙ ap (λ x. x ∷ chars_from (n - 1) (q ++ w)) (take-append-le n (b ∷ q) w l)
        ∙ ap (λ l. take n (b ∷ q) ∷ l) (go q (n - 1) (omega (arith, l)))
    go (b ∷ q) (suc n) h = go q n (omega arith)

-- p is the first character, and t the rest
pub chars_front : (p t : List ℕ) → 0 < length p → piece_len (p ++ t) ≡ length p → chars (p ++ t) ≡ p ∷ chars t
chars_front p t h e =
    chars_more (p ++ t) (simp length-append (omega arith))
    ∙ simp (e, take_at p t (length p) refl, drop_at p t (length p) refl)

-- cut behind it, or further on, the text keeps its first character
char_kept : (x w : List ℕ) → 0 < length x → char_len (x ++ w) ≤ length x → char_len x ≡ char_len (x ++ w)
char_kept [] w h l = absurd (omega arith)
char_kept (b ∷ x) w h l = char_cut b x w l

pub chars_front_cut : (p t w : List ℕ) → 0 < length p → piece_len (p ++ (t ++ w)) ≡ length p → chars (p ++ t) ≡ p ∷ chars t
chars_front_cut p t w h e = chars_front p t h (ap (max 1) same ∙ e)
  where
    same : char_len (p ++ t) ≡ char_len (p ++ (t ++ w))
    same = char_kept (p ++ t) w (simp length-append (omega arith)) (simp (append_assoc, length-append) (omega (arith, e))) ∙ ap char_len (append_assoc p t w)

-- the first character, standing alone, is a character where it was one in the text
pub char_piece : (s : List ℕ) → 0 < length s → char_len (take (piece_len s) s) ≡ char_len s
char_piece s h =
    char_kept (take (piece_len s) s) (drop (piece_len s) s)
    (simp length-take (omega (arith, piece_le s h)))
    (simp (take-append-drop, length-take) (omega (arith, char_le s)))
    ∙ ap char_len (take-append-drop (piece_len s) s)

-- what the first of a text's characters says of the text
pub record First (s p : List ℕ) (l : List (List ℕ)) : Type 0 where
  pub some_left : 0 < length s
  pub size : length p ≡ piece_len s
  pub is_char_lem : char_len p ≡ char_len s
  pub whole : p ++ flatten l ≡ s
  pub rest : chars (drop (piece_len s) s) ≡ l

pub chars_first : (s p : List ℕ) (l : List (List ℕ)) → chars s ≡ p ∷ l → First s p l
unfolding chars_from flatten
chars_first [] p l e = let z : ◌≡◌ {A = ℕ} 0 1 = cc in absurd (omega arith)
chars_first (b ∷ s) p l e =
    record {
      some_left = omega arith;
      size = ap length front ∙ length-take-le n (b ∷ s) (piece_le (b ∷ s) (omega arith));
      is_char_lem = ap char_len front ∙ char_piece (b ∷ s) (omega arith);
      whole = ap flatten (sym e) ∙ flatten_chars (b ∷ s);
      rest = cc (chars_more (b ∷ s) (omega arith));
    }
  where
    n : ℕ
    n = piece_len (b ∷ s)

    front : p ≡ take n (b ∷ s)
    front = cc (chars_more (b ∷ s) (omega arith))

-- a run of a text's characters at its front, or at its end, is cut the same where it stands alone
pub chars_of_rest : (l m : List (List ℕ)) (s : List ℕ) → chars s ≡ l ++ m → chars (flatten m) ≡ m
chars_of_rest [] m s e = ap chars (ap flatten (sym e) ∙ flatten_chars s) ∙ e
chars_of_rest (p ∷ l) m s e = chars_of_rest l m (drop (piece_len s) s) (chars_first s p (l ++ m) e).rest

pub chars_of_front : (l m : List (List ℕ)) (s : List ℕ) → chars s ≡ l ++ m → chars (flatten l) ≡ l
unfolding chars_from flatten
chars_of_front [] m s e = refl
chars_of_front (p ∷ l) m s e =
    let f : First s p (l ++ m) = chars_first s p (l ++ m) e in
    let whole : p ++ (flatten l ++ flatten m) ≡ s = ap (λ x. p ++ x) (sym (flatten_append l m)) ∙ f.whole in
    chars_front_cut p (flatten l) (flatten m) (omega arith) (ap piece_len whole ∙ sym f.size)
    ∙ ap (λ x. p ∷ x) (chars_of_front l m (drop (piece_len s) s) f.rest)
