-- Laws of white space, as the functions meet it.
use Rattle.std.specs.Prelude.{Option, Some, None}
use Rattle.std.specs.Option.{option_eq}
use mathlib.Core.Path.{◌≡◌, refl, sym, ap, ◌∙◌}
use mathlib.Core.List.{List, [], ◌∷◌, ◌++◌, append-nil, flatten, reverse, reverse-cons, reverse-append, reverse-reverse}
use mathlib.Core.Bool.{Bool, true, false, cond, not, ◌&&◌, ◌||◌, and-false}
use mathlib.Core.Logic.{◌⊎◌, inl, inr, ⊎_elim}
use Prim.Native.Nat.{ℕ, suc, ◌+◌, ◌-◌, ◌*◌, ◌%◌, ◌≤◌, ◌<◌, max}
use native.Mathlib.Omega.{arith}
use lib.Dec.{ltb, eqb}
use lib.ListN.{length, get_or, take, drop, length-append, length-drop, take-append-drop, drop_of_length-le}
use lib.Seq.{drop-cons, length-take-le, take_at, drop_at}
use borrow.Author.Tests.{le-leb, lt-leb, lt-ltb, ne_eqb, eqb-true, ltb-true}
use Rattle.scan.specs.Lists.{drop_while}
use Rattle.utf8.specs.Utf8.{within, char_len, piece_len, chars_from, chars, is_char, code_point, encode}
use Rattle.text.specs.White.{is_white, is_space, skip, trim_start, trim_end, after_token, white_len, unless_zero}
use Rattle.utf8.proofs.TestLaws.{both, either, in_range, upto}
use Rattle.utf8.proofs.CharLaws.{Begins, char_begins, char_le, char_one, wide_cases, piece_pos, piece_le}
use Rattle.utf8.proofs.ListLaws.{flatten_append}
use Rattle.utf8.proofs.CharsLaws.{First, chars_first, chars_front, chars_more, char_piece, chars_append, chars_of_front, chars_of_rest, flatten_chars}
use Rattle.utf8.proofs.EncodeLaws.{Decodes, char_decodes}
use Rattle.text.proofs.LengthLaws.{zero_none, more_some, one_some, none_zero, some_more, told_same, told_other}

-- of the code points above 0x3000 none is white
high_white : (u : ℕ) → 0x3000 < u → is_white u ≡ false
unfolding is_white
high_white u h =
    simp (
      lt-leb u 0x0D (omega arith),
      ne_eqb u 0x20 (λ z. omega arith),
      ne_eqb u 0x85 (λ z. omega arith),
      ne_eqb u 0xA0 (λ z. omega arith),
      ne_eqb u 0x1680 (λ z. omega arith),
      lt-leb u 0x200A (omega arith),
      ne_eqb u 0x2028 (λ z. omega arith),
      ne_eqb u 0x2029 (λ z. omega arith),
      ne_eqb u 0x202F (λ z. omega arith),
      ne_eqb u 0x205F (λ z. omega arith),
      ne_eqb u 0x3000 (λ z. omega arith),
      and-false,
    )

short_encode : (c : ℕ) → c ≤ 0xFFFF → length (encode c) ≤ 3
unfolding encode
short_encode c h = upto c 0x7F (λ k. simp (le-leb c 0x7F k) (omega arith)) (λ k. upto c 0x7FF (λ l. simp (lt-leb c 0x7F k, le-leb c 0x7FF l) (omega arith)) (λ l. simp (lt-leb c 0x7F k, lt-leb c 0x7FF l, le-leb c 0xFFFF h) (omega arith)))

-- no character of four bytes is white
four_white : (p : List ℕ) → char_len p ≡ 4 → length p ≡ 4 → is_white (code_point p) ≡ false
four_white p e l =
    let d : Decodes p = char_decodes p (omega arith) (omega arith) in
    upto (code_point p) 0xFFFF (λ h. absurd (omega (arith, short_encode (code_point p) h, ap length d.0))) (λ h. high_white (code_point p) (omega arith))

four_space : (p : List ℕ) → is_space p ≡ true → char_len p ≡ 4 → length p ≡ 4 → ⊥
unfolding is_space
four_space p y e l =
    let b : is_white (code_point p) ≡ true = (both (is_char p) (is_white (code_point p)) y).1 in
    let z : ◌≡◌ {A = ℕ} 0 1 = cc (four_white p e l) in
    omega arith

-- the white character at the front
module _ (s : List ℕ) (h : 0 < length s) (k : ℕ) (e : k ≡ char_len s) where
  front : white_len (chars s) ≡ cond (ltb 0 k && is_white (code_point (take (max 1 k) s))) (max 1 k) 0
  unfolding white_len is_space
  front =
      ap white_len (chars_more s h)
      ∙ simp (length-take-le (piece_len s) s (piece_le s h), char_piece s h, ← e)

  pub white_char : (k ≡ 0 → ⊥) → white_len (chars s) ≡ cond (is_white (code_point (take k s))) k 0
  white_char n = let m : max 1 k ≡ k = omega arith in front ∙ simp (m, lt-ltb 0 k (omega arith))

  pub white_no_char : k ≡ 0 → white_len (chars s) ≡ 0
  white_no_char z = front ∙ simp z

-- wide_white: the character has two bytes, or three, or it is not white
pub inside : (s : List ℕ) (k i m : ℕ) → k ≡ char_len s → k ≡ m → i < m → i < length s
inside s k i m e f h = omega (arith, char_le s)

wide_some : (s : List ℕ) → 0x80 ≤ get_or s 0 0 → 0 < length s
wide_some [] h = absurd (omega arith)
wide_some (a ∷ s) h = omega arith

code_two : (s : List ℕ) → 1 < length s → code_point (take 2 s) ≡ get_or s 0 0 % 32 * 64 + get_or s 1 0 % 64
unfolding code_point
code_two [] h = absurd (omega arith)
code_two (a ∷ []) h = absurd (omega arith)
code_two (a ∷ b ∷ s) h = refl

code_three : (s : List ℕ) → 2 < length s → code_point (take 3 s) ≡ (get_or s 0 0 % 16 * 64 + get_or s 1 0 % 64) * 64 + get_or s 2 0 % 64
unfolding code_point
code_three [] h = absurd (omega arith)
code_three (a ∷ []) h = absurd (omega arith)
code_three (a ∷ b ∷ []) h = absurd (omega arith)
code_three (a ∷ b ∷ c ∷ s) h = refl

module _ (s : List ℕ) (h : 0x80 ≤ get_or s 0 0) (k : ℕ) (e : k ≡ char_len s) where
  -- the code point u of a character of m bytes, and whether it is white
  sized : (m u : ℕ) (t : Bool) → k ≡ m → 0 < m → u ≡ code_point (take m s) → t ≡ is_white u → white_len (chars s) ≡ cond t m 0
  sized m u t f n g w = white_char s (wide_some s h) m (sym f ∙ e) (λ z. omega arith) ∙ simp (← g, ← w)

  module _ (f : k ≡ 2) (u : ℕ) (g : u ≡ get_or s 0 0 % 32 * 64 + get_or s 1 0 % 64) (t : Bool) (w : t ≡ is_white u) where
    two_white : white_len (chars s) ≡ cond t 2 0
    two_white = sized 2 u t f (omega arith) (g ∙ sym (code_two s (inside s k 1 2 e f (omega arith)))) w

    pub two_yes : t ≡ true → 2 ≡ white_len (chars s)
    two_yes y = sym (two_white ∙ simp y)

    pub two_no : t ≡ false → 0 ≡ white_len (chars s)
    two_no y = sym (two_white ∙ simp y)

  module _ (f : k ≡ 3) (u : ℕ) (g : u ≡ (get_or s 0 0 % 16 * 64 + get_or s 1 0 % 64) * 64 + get_or s 2 0 % 64) (t : Bool) (w : t ≡ is_white u) where
    three_white : white_len (chars s) ≡ cond t 3 0
    three_white = sized 3 u t f (omega arith) (g ∙ sym (code_three s (inside s k 2 3 e f (omega arith)))) w

    pub three_yes : t ≡ true → 3 ≡ white_len (chars s)
    three_yes y = sym (three_white ∙ simp y)

    pub three_no : t ≡ false → 0 ≡ white_len (chars s)
    three_no y = sym (three_white ∙ simp y)

  pub other_no : (k ≡ 2 → ⊥) → (k ≡ 3 → ⊥) → 0 ≡ white_len (chars s)
  other_no n₂ n₃ =
      wide_cases s h
      (λ f. sym (white_no_char s (wide_some s h) k e (e ∙ f)))
      (λ f. absurd (n₂ (e ∙ f)))
      (λ f. absurd (n₃ (e ∙ f)))
      (λ f. sym (white_char s (wide_some s h) 4 (sym f) (λ z. omega arith) ∙ ap (λ t. cond t 4 0) (four_white (take 4 s) (four f) (length-take-le 4 s (omega (arith, char_le s))))))
    where
      four : char_len s ≡ 4 → char_len (take 4 s) ≡ 4
      four f = let m : piece_len s ≡ 4 = omega arith in sym (ap (λ n. char_len (take n s)) m) ∙ char_piece s (wide_some s h) ∙ f

-- white: the same of ASCII
pub none_white : (s : List ℕ) → length s ≡ 0 → 0 ≡ white_len (chars s)
unfolding chars_from white_len
none_white [] h = refl
none_white (b ∷ s) h = absurd (omega arith)

module _ (s : List ℕ) (n : length s ≡ 0 → ⊥) (l : get_or s 0 0 < 0x80) (t : Bool) (w : t ≡ is_white (get_or s 0 0)) where
  pub one_white : white_len (chars s) ≡ cond t 1 0
  unfolding code_point
  one_white = white_char s (omega arith) 1 (char_one s n l) (λ z. omega arith) ∙ ap (λ u. cond u 1 0) (ap is_white (byte s n) ∙ sym w)
    where
      byte : (s : List ℕ) → (length s ≡ 0 → ⊥) → code_point (take 1 s) ≡ get_or s 0 0
      byte [] n = absurd (n refl)
      byte (a ∷ s) n = refl

  pub one_yes : t ≡ true → 1 ≡ white_len (chars s)
  one_yes y = sym (one_white ∙ simp y)

  pub one_no : t ≡ false → 0 ≡ white_len (chars s)
  one_no y = sym (one_white ∙ simp y)

-- of the visible ASCII characters none is white
visible_white : (b : ℕ) → within 0x21 0x7E b ≡ true → is_white b ≡ false
unfolding is_white
visible_white b v =
    let r = in_range 0x21 0x7E b v in
    simp (
      lt-leb b 0x0D (omega arith),
      ne_eqb b 0x20 (λ z. omega arith),
      ne_eqb b 0x85 (λ z. omega arith),
      ne_eqb b 0xA0 (λ z. omega arith),
      ne_eqb b 0x1680 (λ z. omega arith),
      lt-leb 0x2000 b (omega arith),
      ne_eqb b 0x2028 (λ z. omega arith),
      ne_eqb b 0x2029 (λ z. omega arith),
      ne_eqb b 0x202F (λ z. omega arith),
      ne_eqb b 0x205F (λ z. omega arith),
      ne_eqb b 0x3000 (λ z. omega arith),
      and-false,
    )

seen : (b : ℕ) → 0x21 ≤ b → b ≤ 0x7E → within 0x21 0x7E b ≡ true
seen b l m = simp (le-leb 0x21 b l, le-leb b 0x7E m)

-- a space is white, and a line feed is
space_white : (b : ℕ) → b ≡ 0x20 → is_white b ≡ true
unfolding is_white
space_white b e = rw e refl

feed_white : (b : ℕ) → b ≡ 0x0A → is_white b ≡ true
unfolding is_white
feed_white b e = rw e refl

pub gap_ascii : (b : ℕ) → (eqb b 0x20 || eqb b 0x0A) ≡ true → b < 0x80
gap_ascii b g = ⊎_elim (λ e. omega (arith, eqb-true b 0x20 e)) (λ e. omega (arith, eqb-true b 0x0A e)) (either (eqb b 0x20) (eqb b 0x0A) g)

pub gap_white : (b : ℕ) → (eqb b 0x20 || eqb b 0x0A) ≡ true → is_white b ≡ true
gap_white b g = ⊎_elim (λ e. space_white b (eqb-true b 0x20 e)) (λ e. feed_white b (eqb-true b 0x0A e)) (either (eqb b 0x20) (eqb b 0x0A) g)

module _ (t : List ℕ) (h : 0 < length t) where
  front_white : get_or t 0 0 < 0x80 → is_white (get_or t 0 0) ≡ true → 1 ≡ white_len (chars t)
  front_white l w = one_yes t (λ z. omega arith) l (is_white (get_or t 0 0)) refl w

  pub front_space : get_or t 0 0 ≡ 0x20 → 1 ≡ white_len (chars t)
  front_space e = front_white (omega arith) (space_white (get_or t 0 0) e)

  pub front_visible : within 0x21 0x7E (get_or t 0 0) ≡ true → 0 ≡ white_len (chars t)
  front_visible v = one_no t (λ z. omega arith) (omega (arith, (in_range 0x21 0x7E (get_or t 0 0) v).1)) (is_white (get_or t 0 0)) refl (visible_white (get_or t 0 0) v)

  pub front_seen : 0x21 ≤ get_or t 0 0 → get_or t 0 0 ≤ 0x7E → 0 ≡ white_len (chars t)
  front_seen l m = front_visible (seen (get_or t 0 0) l m)

-- the first character passes a test, or not
module _ (p : List ℕ → Bool) (t : List ℕ) where
  pub skip_none : length t ≤ 0 → skip p t ≡ t
  unfolding chars_from drop_while flatten skip
  skip_none h = go t h
    where
      go : (t : List ℕ) → length t ≤ 0 → skip p t ≡ t
      go [] h = refl
      go (b ∷ t) h = absurd (omega arith)

  module _ (h : 0 < length t) where
    pub skip_here : p (take (piece_len t) t) ≡ false → skip p t ≡ t
    unfolding drop_while skip
    skip_here f = ap (λ l. flatten (drop_while p l)) (chars_more t h) ∙ simp f (ap flatten (sym (chars_more t h)) ∙ flatten_chars t)

    pub skip_more : p (take (piece_len t) t) ≡ true → skip p t ≡ skip p (drop (piece_len t) t)
    unfolding drop_while skip
    skip_more f = ap (λ l. flatten (drop_while p l)) (chars_more t h) ∙ simp f

space_first : (t : List ℕ) → 0 < length t → white_len (chars t) ≡ cond (is_space (take (piece_len t) t)) (piece_len t) 0
unfolding white_len
space_first t h = ap white_len (chars_more t h) ∙ simp (length-take-le (piece_len t) t (piece_le t h))

-- k bytes of white space at the front of t
module _ (t : List ℕ) (k : ℕ) (e : k ≡ white_len (chars t)) where
  none : length t ≤ 0 → k ≡ 0
  none h = e ∙ sym (none_white t (omega arith))

  module _ (n : k ≡ 0 → ⊥) where
    some : 0 < length t
    some = upto (length t) 0 (λ h. absurd (n (none h))) (λ h. h)

    is_space_lem : (is_space (take (piece_len t) t) ≡ true) × (k ≡ piece_len t)
    is_space_lem = go (is_space (take (piece_len t) t)) refl (e ∙ space_first t some)
      where
        go : (b : Bool) → is_space (take (piece_len t) t) ≡ b → k ≡ cond b (piece_len t) 0 → (is_space (take (piece_len t) t) ≡ true) × (k ≡ piece_len t)
        go true f g = (f, g)
        go false f g = absurd (n g)

  not_space : 0 < length t → k ≡ 0 → is_space (take (piece_len t) t) ≡ false
  not_space h z = go (is_space (take (piece_len t) t)) refl (sym z ∙ e ∙ space_first t h)
    where
      go : (b : Bool) → is_space (take (piece_len t) t) ≡ b → 0 ≡ cond b (piece_len t) 0 → is_space (take (piece_len t) t) ≡ false
      go true f g = absurd (omega (arith, piece_pos t))
      go false f g = f

  pub white_within : k ≤ length t
  white_within = upto k 0 (λ h. omega arith) (λ h. let n : k ≡ 0 → ⊥ = λ z. omega arith in omega (arith, (is_space_lem n).1, piece_le t (some n)))

  -- trim_start
  pub start_stop : k ≡ 0 → trim_start t ≡ t
  start_stop z = upto (length t) 0 (skip_none is_space t) (λ h. skip_here is_space t h (not_space h z))

  pub start_more : (k ≡ 0 → ⊥) → trim_start t ≡ trim_start (drop k t)
  start_more n = skip_more is_space t (some n) (is_space_lem n).0 ∙ ap (λ m. trim_start (drop m t)) (sym (is_space_lem n).1)

  -- ink_len
  pub ink_none : (k ≡ 0 → ⊥) → 0 ≡ piece_len t - white_len (chars t)
  ink_none n = omega (arith, e, (is_space_lem n).1)

  pub ink_some : (m : ℕ) → k ≡ 0 → m ≡ piece_len t → m ≡ piece_len t - white_len (chars t)
  ink_some m z f = omega (arith, e)

  -- token_end
  pub token_stop : (k ≡ 0 → ⊥) → after_token t ≡ t
  unfolding after_token
  token_stop n = skip_here _ t (some n) (ap not (is_space_lem n).0)

  token_more : 0 < length t → k ≡ 0 → after_token t ≡ after_token (drop (piece_len t) t)
  unfolding after_token
  token_more h z = skip_more _ t h (ap not (not_space h z))

-- k bytes at the front of t of a character that is not white
module _ (t : List ℕ) (k : ℕ) (e : k ≡ piece_len t - white_len (chars t)) where
  pub ink_stop : k ≡ 0 → after_token t ≡ t
  ink_stop z = token_stop t (white_len (chars t)) refl (λ w. omega (arith, piece_pos t))

  module _ (h : 0 < length t) (n : k ≡ 0 → ⊥) where
    no_white : white_len (chars t) ≡ 0
    no_white = upto (white_len (chars t)) 0 (λ l. omega arith) (λ l. absurd (n (omega (arith, (is_space_lem t (white_len (chars t)) refl (λ z. omega arith)).1))))

    pub ink_size : k ≡ piece_len t
    ink_size = omega (arith, no_white)

    pub ink_more : after_token t ≡ after_token (drop k t)
    ink_more = token_more t (white_len (chars t)) refl h no_white ∙ ap (λ m. after_token (drop m t)) (sym ink_size)

pub token_none : (t : List ℕ) → length t ≤ 0 → after_token t ≡ t
unfolding after_token
token_none t h = skip_none _ t h

-- the part behind x
pub drop_back : (x p t : List ℕ) → x ++ p ≡ t → drop (length t - length p) t ≡ p
drop_back x p t e = ap (drop (length t - length p)) (sym e) ∙ drop_at x p (length t - length p) (omega (arith, ap length e, length-append x p))

-- the last k bytes
-- the characters from the back: the last is p
module _ (t p : List ℕ) (l : List (List ℕ)) (e : reverse (chars t) ≡ p ∷ l) where
  from_back : chars t ≡ reverse l ++ (p ∷ [])
  from_back = sym (reverse-reverse (chars t)) ∙ ap reverse e ∙ reverse-cons p l

  parted : flatten (reverse l) ++ p ≡ t
  unfolding flatten
  parted =
      ap (λ x. flatten (reverse l) ++ x) (sym (append-nil p))
      ∙ sym (flatten_append (reverse l) (p ∷ []))
      ∙ ap flatten (sym from_back)
      ∙ flatten_chars t

  front_chars : chars (flatten (reverse l)) ≡ reverse l
  front_chars = chars_of_front (reverse l) (p ∷ []) t from_back

  last_chars : chars p ≡ p ∷ []
  unfolding flatten
  last_chars = ap chars (sym (append-nil p)) ∙ chars_of_rest (reverse l) (p ∷ []) t from_back

space_char : (p : List ℕ) → is_space p ≡ true → 0 < char_len p
unfolding is_space
space_char p e = ltb-true 0 (char_len p) (both (is_char p) (is_white (code_point p)) e).0

-- trim_end: no white character is at the end, or one of k bytes
record Stop (t : List ℕ) (k : ℕ) : Type 0 where
  size : k ≡ 0
  same : trim_end t ≡ t

record More (t : List ℕ) (k : ℕ) : Type 0 where
  some_byte : 0 < k
  fits : k ≤ length t
  less : trim_end t ≡ trim_end (take (length t - k) t)

module _ (t : List ℕ) (k : ℕ) (e : k ≡ white_len (reverse (chars t))) where
  at_end_lem : Stop t k ⊎ More t k
  unfolding drop_while white_len trim_end
  at_end_lem = go (reverse (chars t)) refl e
    where
      back : (r : List (List ℕ)) → reverse (chars t) ≡ r → flatten (reverse r) ≡ t
      back r f = ap (λ r. flatten (reverse r)) (sym f) ∙ ap flatten (reverse-reverse (chars t)) ∙ flatten_chars t

      by : (p : List ℕ) (l : List (List ℕ)) → reverse (chars t) ≡ p ∷ l → (b : Bool) → is_space p ≡ b → k ≡ cond b (length p) 0 → Stop t k ⊎ More t k
      by p l f true y z =
          let w : flatten (reverse l) ++ p ≡ t = parted t p l f in
          let n : length t ≡ length (flatten (reverse l)) + length p = sym (ap length w) ∙ length-append (flatten (reverse l)) p in
          let c : take (length t - k) t ≡ flatten (reverse l) = ap (take (length t - k)) (sym w) ∙ take_at (flatten (reverse l)) p (length t - k) (omega arith) in
          inr (record {
            some_byte = omega (arith, space_char p y, char_le p);
            fits = omega arith;
            less = ap (λ r. flatten (reverse (drop_while is_space r))) f
                ∙ simp (y, c, front_chars t p l f, reverse-reverse);
          })
      by p l f false y z = inl (record { size = z; same = ap (λ r. flatten (reverse (drop_while is_space r))) f ∙ simp y (back (p ∷ l) f) })

      go : (r : List (List ℕ)) → reverse (chars t) ≡ r → k ≡ white_len r → Stop t k ⊎ More t k
      go [] f g = inl (record { size = g; same = ap (λ r. flatten (reverse (drop_while is_space r))) f ∙ back [] f })
      go (p ∷ l) f g = by p l f (is_space p) refl g

  pub white_end_within : k ≤ length t
  white_end_within = ⊎_elim (λ x. omega (arith, x.size)) (λ x. x.fits) at_end_lem

  pub end_stop : k ≡ 0 → trim_end t ≡ t
  end_stop z = ⊎_elim (λ x. x.same) (λ x. absurd (omega (arith, x.some_byte))) at_end_lem

  pub end_more : (k ≡ 0 → ⊥) → trim_end t ≡ trim_end (take (length t - k) t)
  end_more n = ⊎_elim (λ x. absurd (n x.size)) (λ x. x.less) at_end_lem

-- white_end
pub end_empty : (s : List ℕ) → length s ≡ 0 → 0 ≡ white_len (reverse (chars s))
unfolding chars_from white_len
end_empty [] h = refl
end_empty (b ∷ s) h = absurd (omega arith)

-- a part of s at its end that begins with no UTF8-tail has the last of the characters of s
ends : (q w : List ℕ) (p : List ℕ) → Begins w → chars w ≡ p ∷ [] → reverse (chars (q ++ w)) ≡ p ∷ reverse (chars q)
ends q w p b e = ap reverse (chars_append q w b ∙ ap (λ l. chars q ++ l) e) ∙ reverse-append (chars q) (p ∷ [])

module _ (s : List ℕ) (k : ℕ) (l : List ℕ) (e : l ≡ drop (length s - k) s) where
  whole : take (length s - k) s ++ l ≡ s
  whole = ap (λ x. take (length s - k) s ++ x) e ∙ take-append-drop (length s - k) s

  short : length l ≤ k
  short = rw e (simp length-drop (omega arith))

  -- its first character is its only one where that has k bytes
  alone : (p : List ℕ) (m : List (List ℕ)) → chars l ≡ p ∷ m → length p ≡ k → chars l ≡ p ∷ []
  unfolding chars_from
  alone p m f n =
      let r : First l p m = chars_first l p m f in
      let z : drop (piece_len l) l ≡ [] = drop_of_length-le l {i = piece_len l} (omega (arith, r.size, short)) in
      f ∙ ap (λ m. p ∷ m) (sym r.rest ∙ ap chars z)

  pub end_some : k ≡ white_len (chars l) → 0 < k → k ≡ white_len (reverse (chars s))
  unfolding white_len chars_from
  end_some f h = go (chars l) refl f
    where
      by : (p : List ℕ) (m : List (List ℕ)) → chars l ≡ p ∷ m → (b : Bool) → is_space p ≡ b → k ≡ cond b (length p) 0 → k ≡ white_len (reverse (chars s))
      by p m c true y z =
          let r : First l p m = chars_first l p m c in
          let b : Begins l = char_begins l (omega (arith, r.is_char_lem, space_char p y)) in
          let q : reverse (chars s) ≡ p ∷ reverse (chars (take (length s - k) s)) = ap (λ x. reverse (chars x)) (sym whole) ∙ ends (take (length s - k) s) l p b (alone p m c (sym z)) in
          sym (ap white_len q ∙ simp y (sym z))
      by p m c false y z = absurd (omega arith)

      go : (r : List (List ℕ)) → chars l ≡ r → k ≡ white_len r → k ≡ white_len (reverse (chars s))
      go [] c z = absurd (omega arith)
      go (p ∷ m) c z = by p m c (is_space p) refl z

  pub end_told : (o : Option ℕ) (r : Bool) → o ≡ unless_zero (white_len (chars l)) → r ≡ option_eq eqb o (Some k) → r ≡ true → 0 < k → Some k ≡ unless_zero (white_len (reverse (chars s)))
  end_told o r f q y h = more_some k _ (end_some (told_same k o _ r f q y) h) h

-- the last byte is ASCII: it is the last character
last_byte : (s : List ℕ) → 0 < length s → drop (length s - 1) s ≡ get_or s (length s - 1) 0 ∷ []
last_byte s h = drop-cons s (length s - 1) 0 (omega arith) ∙ ap (λ l. get_or s (length s - 1) 0 ∷ l) (drop_of_length-le s {i = suc (length s - 1)} (omega arith))

pub end_ascii : (s l : List ℕ) → (length s ≡ 0 → ⊥) → get_or s (length s - 1) 0 < 0x80 → l ≡ drop (length s - 1) s → white_len (chars l) ≡ white_len (reverse (chars s))
unfolding white_len chars_from
end_ascii s l n h e = go (get_or s (length s - 1) 0) h (e ∙ last_byte s (omega arith))
  where
    go : (b : ℕ) → b < 0x80 → l ≡ b ∷ [] → white_len (chars l) ≡ white_len (reverse (chars s))
    go b h g =
        let c : chars (b ∷ []) ≡ (b ∷ []) ∷ [] = chars_front (b ∷ []) [] (omega arith) (omega (arith, char_one (b ∷ []) (λ z. omega arith) h)) in
        let q : reverse (chars s) ≡ (b ∷ []) ∷ reverse (chars (take (length s - 1) s)) =
        ap (λ x. reverse (chars x)) (sym (whole s 1 l e) ∙ ap (λ x. take (length s - 1) s ++ x) g) ∙ ends (take (length s - 1) s) (b ∷ []) (b ∷ []) (simp (lt-leb 0x80 b h)) c in
        ap (λ x. white_len (chars x)) g ∙ ap white_len c ∙ sym (ap white_len q)

pub end_byte : (s l : List ℕ) (o : Option ℕ) → (length s ≡ 0 → ⊥) → get_or s (length s - 1) 0 < 0x80 → l ≡ drop (length s - 1) s → o ≡ unless_zero (white_len (chars l))
    → o ≡ unless_zero (white_len (reverse (chars s)))
end_byte s l o n h e f = f ∙ ap unless_zero (end_ascii s l n h e)

pub end_none : (s l₂ l₃ : List ℕ) → (length s ≡ 0 → ⊥) → 0x80 ≤ get_or s (length s - 1) 0
    → l₂ ≡ drop (length s - 2) s → (white_len (chars l₂) ≡ 2 → ⊥)
    → l₃ ≡ drop (length s - 3) s → (white_len (chars l₃) ≡ 3 → ⊥)
    → 0 ≡ white_len (reverse (chars s))
unfolding white_len
end_none s l₂ l₃ n h e₂ n₂ e₃ n₃ = go (reverse (chars s)) refl
  where
    -- p is the last character, and white
    never : (p : List ℕ) (m : List (List ℕ)) → reverse (chars s) ≡ p ∷ m → is_space p ≡ true → ⊥
    never p m f y =
        let n₀ : 0 < char_len p = space_char p y in
        let c : chars p ≡ p ∷ [] = last_chars s p m f in
        let z : length p ≡ char_len p = omega (arith, (chars_first p p [] c).size) in
        let w : white_len (chars p) ≡ length p = ap white_len c ∙ simp y in
        let d : drop (length s - length p) s ≡ p = drop_back (flatten (reverse m)) p s (parted s p m f) in
        upto 0x80 (get_or p 0 0)
        (λ l. wide_cases p l
        (λ k. omega arith)
        (λ k. n₂ (ap (λ x. white_len (chars x)) (e₂ ∙ ap (λ i. drop (length s - i) s) (sym k ∙ sym z) ∙ d) ∙ w ∙ z ∙ k))
        (λ k. n₃ (ap (λ x. white_len (chars x)) (e₃ ∙ ap (λ i. drop (length s - i) s) (sym k ∙ sym z) ∙ d) ∙ w ∙ z ∙ k))
        (λ k. four_space p y k (z ∙ k)))
        (λ l.
        let o : 1 ≡ char_len p = char_one p (λ x. omega arith) l in
        let b : p ≡ get_or s (length s - 1) 0 ∷ [] = sym d ∙ ap (λ i. drop (length s - i) s) (z ∙ sym o) ∙ last_byte s (omega arith) in
        omega (arith, ap (λ x. get_or x 0 0) b))

    by : (p : List ℕ) (m : List (List ℕ)) → reverse (chars s) ≡ p ∷ m → (b : Bool) → is_space p ≡ b → 0 ≡ cond b (length p) 0
    by p m f true y = absurd (never p m f y)
    by p m f false y = refl

    go : (r : List (List ℕ)) → reverse (chars s) ≡ r → 0 ≡ white_len r
    go [] f = refl
    go (p ∷ m) f = by p m f (is_space p) refl

-- the last byte by itself
module _ (t : List ℕ) (h : 0 < length t) where
  back : (k : ℕ) → get_or t (length t - 1) 0 < 0x80 → k ≡ white_len (chars (drop (length t - 1) t)) → k ≡ white_len (reverse (chars t))
  back k l e = e ∙ end_ascii t (drop (length t - 1) t) (λ z. omega arith) l refl

  byte : get_or (drop (length t - 1) t) 0 0 ≡ get_or t (length t - 1) 0
  byte = ap (λ x. get_or x 0 0) (last_byte t h)

  some_left : 0 < length (drop (length t - 1) t)
  some_left = simp length-drop (omega arith)

  pub back_white : get_or t (length t - 1) 0 < 0x80 → is_white (get_or t (length t - 1) 0) ≡ true → 1 ≡ white_len (reverse (chars t))
  back_white l w = back 1 l (front_white (drop (length t - 1) t) some_left (omega (arith, byte)) (ap is_white byte ∙ w))

  pub back_visible : within 0x21 0x7E (get_or t (length t - 1) 0) ≡ true → 0 ≡ white_len (reverse (chars t))
  back_visible v =
      back 0 (omega (arith, (in_range 0x21 0x7E (get_or t (length t - 1) 0) v).1))
      (front_visible (drop (length t - 1) t) some_left (ap (within 0x21 0x7E) byte ∙ v))

  pub back_space : get_or t (length t - 1) 0 ≡ 0x20 → 1 ≡ white_len (reverse (chars t))
  back_space e = back_white (omega arith) (space_white (get_or t (length t - 1) 0) e)

  pub back_feed : get_or t (length t - 1) 0 ≡ 0x0A → 1 ≡ white_len (reverse (chars t))
  back_feed e = back_white (omega arith) (feed_white (get_or t (length t - 1) 0) e)

  pub back_seen : 0x21 ≤ get_or t (length t - 1) 0 → get_or t (length t - 1) 0 ≤ 0x7E → 0 ≡ white_len (reverse (chars t))
  back_seen l m = back_visible (seen (get_or t (length t - 1) 0) l m)

-- other_ink_len
pub ink_white : (t : List ℕ) (k : ℕ) → Some k ≡ unless_zero (white_len (chars t)) → 0 ≡ piece_len t - white_len (chars t)
ink_white t k f = let x = some_more k _ f in ink_none t k x.0 (λ z. omega (arith, x.1))

pub ink_other : (t : List ℕ) (m : ℕ) → None ≡ unless_zero (white_len (chars t)) → m ≡ piece_len t → m ≡ piece_len t - white_len (chars t)
ink_other t m f e = omega (arith, none_zero _ f)

-- visible ASCII is ink, and a space is none
module _ (t : List ℕ) (h : 0 < length t) where
  pub ink_seen : 0x21 ≤ get_or t 0 0 → get_or t 0 0 ≤ 0x7E → 1 ≡ piece_len t - white_len (chars t)
  ink_seen l m = ink_some t 0 (front_seen t h l m) 1 refl (omega (arith, char_one t (λ z. omega arith) (omega arith)))

  pub ink_space : get_or t 0 0 ≡ 0x20 → 0 ≡ piece_len t - white_len (chars t)
  ink_space e = ink_none t 1 (front_space t h e) (λ z. omega arith)

pub end_end : (t : List ℕ) → length t ≤ 0 → trim_end t ≡ t
unfolding trim_end chars_from drop_while flatten
end_end [] h = refl
end_end (b ∷ t) h = absurd (omega arith)

-- what the tests of a character use, at the front and at the end
pub ruleset wide_laws = (char_le, two_yes, two_no, three_yes, three_no, other_no, zero_none, more_some)

pub ruleset front_laws = (none_white, front_space, front_seen, one_white, zero_none, more_some, one_some)

pub ruleset end_laws = (end_empty, back_space, back_feed, back_seen, end_byte, end_told, end_none, zero_none, more_some, told_other)

pub ruleset ink_laws = (ink_seen, ink_space, ink_white, ink_other, zero_none, more_some)
