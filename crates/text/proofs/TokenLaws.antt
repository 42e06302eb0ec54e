-- Laws of tokens: the walk from one to the next. They hold for any bytes.
use Rattle.std.specs.Prelude.{Option, Some, None, unwrap_or}
use mathlib.Core.Path.{◌≡◌, refl, sym, ap, ◌∙◌}
use mathlib.Core.List.{List, [], ◌∷◌, ◌++◌, append_assoc, map, flatten}
use mathlib.Core.Bool.{Bool, not}
use Prim.Native.Nat.{ℕ, ◌+◌, ◌-◌, ◌≤◌, ◌<◌}
use native.Mathlib.Omega.{arith}
use lib.ListN.{length, take, drop, take-append-drop, length-append, length-drop, drop_of_length-le}
use lib.Seq.{take_all, take_at, length-take-le}
use Rattle.scan.specs.Lists.{take_while, drop_while, tokens_by}
use Rattle.scan.proofs.ListLaws.{drop_while_head, tokens_by_none, tokens_by_some}
use Rattle.utf8.specs.Utf8.{piece_len, chars_from, chars}
use Rattle.text.specs.White.{is_space, trim_start, after_token, token_at, next_token, tokens}
use Rattle.utf8.proofs.CharLaws.{piece_pos, piece_le}
use Rattle.utf8.proofs.CharsLaws.{chars_more}
use Rattle.text.proofs.WhiteLaws.{skip_none, drop_back}
use Rattle.text.proofs.TrimLaws.{skip_part, skip_length, chars_skip}

-- next_token
pub token_past : (s : List ℕ) (i : ℕ) → length s ≤ i → None ≡ next_token s i
unfolding next_token
token_past s i h = sym (ap (token_at s) (ap trim_start (drop_of_length-le s {i = i} h) ∙ skip_none is_space [] (omega arith)))

-- t is left where the token begins
module _ (s t : List ℕ) (i : ℕ) (f : trim_start (drop i s) ≡ t) where
  before : (take i s ++ flatten (take_while is_space (chars (drop i s)))) ++ t ≡ s
  before =
      append_assoc (take i s) (flatten (take_while is_space (chars (drop i s)))) t
      ∙ ap (λ x. take i s ++ x) (ap (λ x. flatten (take_while is_space (chars (drop i s))) ++ x) (sym f) ∙ skip_part is_space (drop i s))
      ∙ take-append-drop i s

  at_start : drop (length s - length t) s ≡ t
  at_start = drop_back (take i s ++ flatten (take_while is_space (chars (drop i s)))) t s before

module _ (s t : List ℕ) (i : ℕ) (h : i < length s) (e : t ≡ trim_start (take (length s - i) (drop i s))) where
  left : trim_start (drop i s) ≡ t
  left = ap trim_start (sym (take_all (length s - i) (drop i s) (simp length-drop (omega arith)))) ∙ sym e

  pub token_none : length t ≡ 0 → None ≡ next_token s i
  unfolding next_token
  token_none z = sym (ap (token_at s) left ∙ go t z)
    where
      go : (t : List ℕ) → length t ≡ 0 → token_at s t ≡ None
      go [] z = refl
      go (b ∷ t) z = absurd (omega arith)

  pub rest_length : length t ≤ length s
  rest_length = omega (arith, skip_length is_space (drop i s), ap length left, length-drop i s)

  pub token_found : (b : ℕ) → b ≡ length s - length (after_token (drop (length s - length t) s)) → (length t ≡ 0 → ⊥) → Some (length s - length t, b) ≡ next_token s i
  unfolding next_token
  token_found b f n = sym (ap (token_at s) left ∙ go t n (f ∙ ap (λ x. length s - length (after_token x)) (at_start s t i left)))
    where
      go : (t : List ℕ) → (length t ≡ 0 → ⊥) → b ≡ length s - length (after_token t) → token_at s t ≡ Some (length s - length t, b)
      go [] n f = absurd (n refl)
      go (x ∷ t) n f = ap (λ y. Some (length s - length (x ∷ t), y)) (sym f)

-- the walk: no token at the place i or behind it, or one from a to b and then those behind b
pub record Walk (s : List ℕ) (i a b : ℕ) : Type 0 where
  pub from : i ≤ a
  pub some_byte : a < b
  pub inside : b ≤ length s
  pub step : tokens (drop i s) ≡ take (b - a) (drop a s) ∷ tokens (drop b s)

pub walk_end : (s : List ℕ) (i : ℕ) → next_token s i ≡ None → tokens (drop i s) ≡ []
unfolding next_token chars_from
walk_end s i e = go (trim_start (drop i s)) refl e
  where
    go : (t : List ℕ) → trim_start (drop i s) ≡ t → token_at s t ≡ None → tokens (drop i s) ≡ []
    go [] f e = ap (map flatten) (tokens_by_none is_space (chars (drop i s)) (sym (chars_skip is_space (drop i s)) ∙ ap chars f))
    go (x ∷ t) f e = let z : ◌≡◌ {A = ℕ} 0 1 = cc in absurd (omega arith)

abbrev ink : List ℕ → Bool
ink p = not (is_space p)

-- the token where t begins, and what is behind it
module _ (s t : List ℕ) (i : ℕ) (f : trim_start (drop i s) ≡ t) (n : 0 < length t) where
  abbrev word : List (List ℕ)
  word = take_while ink (chars t)

  here : flatten word ++ after_token t ≡ t
  unfolding after_token
  here = skip_part ink t

  at_stop : drop (length s - length (after_token t)) s ≡ after_token t
  at_stop =
      drop_back ((take i s ++ flatten (take_while is_space (chars (drop i s)))) ++ flatten word) (after_token t) s
      (append_assoc (take i s ++ flatten (take_while is_space (chars (drop i s)))) (flatten word) (after_token t) ∙ ap (λ x. (take i s ++ flatten (take_while is_space (chars (drop i s)))) ++ x) here ∙ before s t i f)

  first_char : drop_while is_space (chars (drop i s)) ≡ take (piece_len t) t ∷ chars (drop (piece_len t) t)
  first_char = sym (chars_skip is_space (drop i s)) ∙ ap chars f ∙ chars_more t n

  cut : tokens (drop i s) ≡ flatten word ∷ tokens (after_token t)
  unfolding after_token
  cut =
      ap (map flatten) (tokens_by_some is_space (chars (drop i s)) (take (piece_len t) t) (chars (drop (piece_len t) t)) first_char)
      ∙ ap (λ l. flatten (take_while ink l) ∷ map flatten (tokens_by is_space (drop_while ink l))) (sym (chars_more t n))
      ∙ ap (λ l. flatten word ∷ map flatten (tokens_by is_space l)) (sym (chars_skip ink t))

  word_size : 0 < length (flatten word)
  unfolding take_while flatten
  word_size =
      rw (chars_more t n, drop_while_head is_space (chars (drop i s)) (take (piece_len t) t) (chars (drop (piece_len t) t)) first_char)
      (simp (length-append, length-take-le (piece_len t) t (piece_le t n)) (omega (arith, piece_pos t)))

  walked : (a b : ℕ) → a ≡ length s - length t → b ≡ length s - length (after_token t) → Walk s i a b
  walked a b ea eb =
      let l : length t ≤ length s - i = omega (arith, ap length f, skip_length is_space (drop i s), length-drop i s) in
      let m : length (flatten word) + length (after_token t) ≡ length t = sym (length-append (flatten word) (after_token t)) ∙ ap length here in
      let w : take (b - a) (drop a s) ≡ flatten word =
      ap (take (b - a)) (ap (λ k. drop k s) ea ∙ at_start s t i f ∙ sym here) ∙ take_at (flatten word) (after_token t) (b - a) (omega arith) in
      let v : drop b s ≡ after_token t = ap (λ k. drop k s) eb ∙ at_stop in
      record {
        from = omega arith;
        some_byte = omega (arith, word_size);
        inside = omega arith;
        step = cut ∙ ap (λ x. x ∷ tokens (after_token t)) (sym w) ∙ ap (λ x. take (b - a) (drop a s) ∷ tokens x) (sym v);
      }

pub walk : (s : List ℕ) (i a b : ℕ) → next_token s i ≡ Some (a, b) → Walk s i a b
unfolding next_token
walk s i a b e = go (trim_start (drop i s)) refl e
  where
    go : (t : List ℕ) → trim_start (drop i s) ≡ t → token_at s t ≡ Some (a, b) → Walk s i a b
    go [] f e = let z : ◌≡◌ {A = ℕ} 0 1 = cc in absurd (omega arith)
    go (x ∷ t) f e =
        let of : (Option (ℕ × ℕ) → ℕ × ℕ) = λ (w : Option (ℕ × ℕ)). unwrap_or w (0, 0) in
        walked s (x ∷ t) i f (omega arith) a b (sym (ap (λ w. (of w).0) e)) (sym (ap (λ w. (of w).1) e))

-- what the iterator uses
module _ (s : List ℕ) (i : ℕ) (w : Option (ℕ × ℕ)) (q : w ≡ next_token s i) where
  pub none_left : w ≡ None → tokens (drop i s) ≡ []
  none_left f = walk_end s i (sym q ∙ f)

  module _ (a e : ℕ) (f : w ≡ Some (a, e)) where
    lies : Walk s i a e
    lies = walk s i a e (sym q ∙ f)

    pub next_order : a ≤ e
    next_order = omega (arith, lies.some_byte)

    pub next_inside : e ≤ length s
    next_inside = lies.inside

    pub one_less : tokens (drop i s) ≡ take (e - a) (drop a s) ∷ tokens (drop e s)
    one_less = lies.step

pub ruleset left_laws = (none_left, next_order, next_inside, one_less)

-- what the search for the next token uses
pub ruleset next_laws = (token_past, token_none, rest_length, token_found)
