-- Laws of the path's tokens.
use Rattle.std.specs.Prelude.{Option, Ok, Err, unwrap_or, is_some}
use Rattle.std.specs.List.{last_or as last_of, filter}
use Prim.Native.Nat.{ℕ, zero, suc, ◌+◌, ◌-◌, ◌≤◌, ◌<◌}
use mathlib.Core.Path.{◌≡◌, refl, sym, ap, ◌∙◌}
use mathlib.Core.Bool.{Bool, true, false, cond}
use mathlib.Core.List.{List, [], ◌∷◌, ◌++◌, append_assoc, append-nil, map}
use native.Mathlib.Omega.{arith}
use native.Mathlib.Numerals.{add-one}
use lib.ListN.{length, take, drop, set, take-append-drop}
use lib.Seq.{take-suc-set, drop-set-lt, drop-drop}
use lib.Dec.{leb}
use borrow.Author.Tests.{le-leb}
use Rattle.scan.specs.Ascii.{ascii}
use Rattle.scan.specs.Search.{equal}
use Rattle.scan.proofs.SearchLaws.{equal_path}
use Rattle.text.specs.White.{tokens, next_token}
use Rattle.text.proofs.TokenLaws.{Walk, walk, walk_end, next_order, next_inside}
use Rattle.decimal.specs.Decimal.{unsigned, digits, behind, read_u32}
use Rattle.std.proofs.Common.{Bor}
use Rattle.path_text.specs.Path.{last_or, last_token, letter, is_known, take_off, if_number, numbers, asns_of, put_answer}
use Rattle.path_text.specs.Walk.{asns_from, Steps, Finds, lone}
use Rattle.output.specs.Output.{front}
use Rattle.elem.specs.declared.Origin.TheVariants.{IGP, EGP, INCOMPLETE}
use Rattle.path_text.specs.declared.AsnsError.TheVariants.{TooFewPlaces}
use Rattle.std.proofs.Common.{Some, None}
use Rattle.path_text.proofs.PlainLaws.{lone_none}

-- a token that the walk answered: where it lies
module _ (s : List ℕ) (i : ℕ) (w : Option (ℕ × ℕ)) (q : w ≡ next_token s i) (a e : ℕ) (f : w ≡ Some (a, e)) where
  lies : Walk s i a e
  lies = walk s i a e (sym q ∙ f)

-- the last token, of the items that a whole run over the tokens gave
last_item : (o : Option (Bor (List ℕ))) (d : Bor (List ℕ)) (xs : List (Bor (List ℕ)))
    → (unwrap_or (last_of o xs) d).now ≡ last_or (unwrap_or o d).now (map (λ x. x.now) xs)
unfolding last_or
last_item o d [] = refl
last_item o d (x ∷ xs) = last_item (Some x) d xs

pub last_seen : (s : List ℕ) (xs : List (Bor (List ℕ))) (l : Option (Bor (List ℕ))) (d r : Bor (List ℕ)) → map (λ x. x.now) xs ≡ tokens s → l ≡ last_of None xs
    → d.now ≡ [] → r ≡ unwrap_or l d → r.now ≡ last_token s
unfolding last_token
last_seen s xs l d r e f z q = ap (λ x. x.now) q ∙ rw (f, ← e, ← z) (last_item None d xs)

-- how many tokens are numbers
abbrev pub is_number : List ℕ → Bool
is_number w = is_some (read_u32 w)

pub number_count : (ws : List (List ℕ)) → length (filter is_number ws) ≡ length (numbers ws)
unfolding numbers
number_count [] = refl
number_count (w ∷ ws) = go (read_u32 w) (number_count ws)
  where
    go : (r : Option ℕ) → length (filter is_number ws) ≡ length (numbers ws)
        → length (cond (is_some r) (w ∷ filter is_number ws) (filter is_number ws)) ≡ length (if_number r (numbers ws))
    go (Some n) e = ap suc e
    go None e = e

-- an origin is no number: taken off or not, the AS numbers are the same, so that the code need not
-- take it off
origin_no_number : (w : List ℕ) → is_known (letter w) ≡ true → read_u32 w ≡ None
unfolding letter unsigned digits behind
origin_no_number w e = go (equal w (ascii "i")) (equal w (ascii "e")) (equal w (ascii "?")) refl refl refl e
  where
    go : (x y z : Bool) → equal w (ascii "i") ≡ x → equal w (ascii "e") ≡ y → equal w (ascii "?") ≡ z
        → is_known (cond x (Some IGP) (cond y (Some EGP) (cond z (Some INCOMPLETE) None))) ≡ true → read_u32 w ≡ None
    go true y z i j k e = ap read_u32 (equal_path w (ascii "i") i)
    go false true z i j k e = ap read_u32 (equal_path w (ascii "e") j)
    go false false true i j k e = ap read_u32 (equal_path w (ascii "?") k)
    go false false false i j k e = let z : ◌≡◌ {A = ℕ} 0 1 = cc in absurd (omega arith)

numbers_taken_off : (ws : List (List ℕ)) → numbers (take_off ws) ≡ numbers ws
unfolding numbers take_off
numbers_taken_off [] = refl
numbers_taken_off (w ∷ []) = go (is_known (letter w)) refl
  where
    go : (z : Bool) → is_known (letter w) ≡ z → numbers (cond z [] (w ∷ [])) ≡ if_number (read_u32 w) []
    go true e = rw (origin_no_number w e)
    go false e = refl
numbers_taken_off (w ∷ x ∷ ws) = rw (numbers_taken_off (x ∷ ws))

pub asns_are : (s : List ℕ) → asns_of s ≡ numbers (tokens s)
unfolding asns_of
asns_are s = numbers_taken_off (tokens s)

-- no more tokens than bytes, and no more numbers than tokens
tokens_left : (n : ℕ) (s : List ℕ) (i : ℕ) → length s - i ≤ n → length (tokens (drop i s)) ≤ length s - i
tokens_left zero s i h = go (next_token s i) refl
  where
    go : (w : Option (ℕ × ℕ)) → next_token s i ≡ w → length (tokens (drop i s)) ≤ length s - i
    go None e = rw (walk_end s i e) (omega arith)
    go (Some (a, b)) e = absurd (omega (arith, (walk s i a b e).from, (walk s i a b e).some_byte, (walk s i a b e).inside))
tokens_left (suc n) s i h = go (λ j l. tokens_left n s j l) (next_token s i) refl
  where
    go : ((j : ℕ) → length s - j ≤ n → length (tokens (drop j s)) ≤ length s - j) → (w : Option (ℕ × ℕ)) → next_token s i ≡ w → length (tokens (drop i s)) ≤ length s - i
    go ih None e = rw (walk_end s i e) (omega arith)
    go ih (Some (a, b)) e =
        let w : Walk s i a b = walk s i a b e in
        let l : length s - b ≤ n = omega (arith, w.from, w.some_byte, w.inside) in
        rw w.step (omega (arith, ih b l, w.from, w.some_byte, w.inside))

numbers_few : (ws : List (List ℕ)) → length (numbers ws) ≤ length ws
unfolding numbers
numbers_few [] = omega arith
numbers_few (w ∷ ws) = go (read_u32 w) (numbers_few ws)
  where
    go : (r : Option ℕ) → length (numbers ws) ≤ length ws → length (if_number r (numbers ws)) ≤ suc (length ws)
    go (Some n) h = omega arith
    go None h = omega arith

pub many_places : (s : List ℕ) (k : ℕ) → length s ≤ k → true ≡ leb (length (asns_of s)) k
many_places s k h =
    let t : length (tokens (drop 0 s)) ≤ length s - 0 = tokens_left (length s) s 0 (omega arith) in
    sym (le-leb (length (asns_of s)) k (rw (asns_are s) (omega (arith, numbers_few (tokens s), t))))

pub few_tokens : (s : List ℕ) → length (tokens s) ≤ length s
few_tokens s = omega (arith, tokens_left (length s) s 0 (omega arith))

-- one step of the walk
module _ (s : List ℕ) (i : ℕ) where
  pub is_lone_none : (z : Bool) → z ≡ lone (drop i s) → z ≡ true → asns_from s i ≡ []
  is_lone_none z e f = lone_none (drop i s) (sym e ∙ f)

  module _ (w : Option (ℕ × ℕ)) (q : w ≡ next_token s i) where
    pub finds_end : w ≡ None → asns_from s i ≡ []
    unfolding numbers
    finds_end f = rw (walk_end s i (sym q ∙ f))

    module _ (a e : ℕ) (f : w ≡ Some (a, e)) (r : Option ℕ) (p : r ≡ read_u32 (take (e - a) (drop a s))) where
      forward : Steps s i e
      forward = record { later = omega (arith, (lies s i w q a e f).from, (lies s i w q a e f).some_byte); inside = (lies s i w q a e f).inside }

      pub finds_token : Finds s i (Some (r, e))
      unfolding numbers
      finds_token = (forward, rw (lies s i w q a e f).step (rw p))

-- the walk: n numbers are in front of the place i
module _ (s : List ℕ) (i n : ℕ) (inv : n + length (asns_from s i) ≡ length (asns_of s)) where
  pub counted : asns_from s i ≡ [] → n ≡ length (asns_of s)
  counted f = omega (arith, inv, ap length f)

-- the lent list: the numbers stand in front of the place n, and behind it what stood there
module _ (s : List ℕ) (i n : ℕ) (out old : List ℕ) (wrote : take n out ++ asns_from s i ≡ asns_of s) where
  pub wrote_more : (x e : ℕ) → n < length out → asns_from s i ≡ x ∷ asns_from s e → take (n + 1) (set out n x) ++ asns_from s e ≡ asns_of s
  wrote_more x e h f =
      let one : take (n + 1) (set out n x) ≡ take n out ++ (x ∷ []) = rw add-one (take-suc-set out n x h) in
      ap (λ l. l ++ asns_from s e) one ∙ append_assoc (take n out) (x ∷ []) (asns_from s e) ∙ ap (λ l. take n out ++ l) (sym f) ∙ wrote

  pub written : n + length (asns_from s i) ≡ length (asns_of s) → drop n out ≡ drop n old → asns_from s i ≡ [] → out ≡ asns_of s ++ drop (length (asns_of s)) old
  written inv kept f =
      let front : take n out ≡ asns_of s = sym (append-nil (take n out)) ∙ ap (λ l. take n out ++ l) (sym f) ∙ wrote in
      sym (take-append-drop n out) ∙ rw (front, kept) (ap (λ k. asns_of s ++ drop k old) (counted s i n inv f))

pub kept_more : (out old : List ℕ) (n x : ℕ) → drop n out ≡ drop n old → drop (n + 1) (set out n x) ≡ drop (n + 1) old
kept_more out old n x kept = drop-set-lt (n + 1) out n x (omega arith) ∙ sym (drop-drop 1 n out) ∙ ap (drop 1) kept ∙ drop-drop 1 n old

pub writing_starts : (s : List ℕ) (out : List ℕ) → take 0 out ++ asns_from s 0 ≡ asns_of s
writing_starts s out = sym (asns_are s)

-- the call that refuses or writes
module _ (asns old : List ℕ) where
  pub few_told : put_answer asns old ≡ (Err TooFewPlaces) → leb (length asns) (length old) ≡ false
  unfolding put_answer
  few_told = go (leb (length asns) (length old))
    where
      go : (b : Bool) → cond b (Ok (length asns)) (Err TooFewPlaces) ≡ (Err TooFewPlaces) → b ≡ false
      go true h = let z : ◌≡◌ {A = ℕ} 0 1 = cc in absurd (omega arith)
      go false h = refl

  pub all_told : (n : ℕ) → put_answer asns old ≡ Ok n → (leb (length asns) (length old) ≡ true) × (n ≡ length asns)
  unfolding put_answer
  all_told n = go (leb (length asns) (length old))
    where
      go : (b : Bool) → cond b (Ok (length asns)) (Err TooFewPlaces) ≡ Ok n → (b ≡ true) × (n ≡ length asns)
      go true h = (refl, cc)
      go false h = let z : ◌≡◌ {A = ℕ} 0 1 = cc in absurd (omega arith)

  pub few_kept : leb (length asns) (length old) ≡ false → front asns old ≡ old
  unfolding front
  few_kept h = rw h

  pub all_laid : leb (length asns) (length old) ≡ true → front asns old ≡ asns ++ drop (length asns) old
  unfolding front
  all_laid h = rw h

-- for next_asn: where a token lies, and where none is left
pub ruleset next_asn_laws = (next_order, next_inside, finds_end)

-- for write_asns: what the lent list holds at each turn
pub ruleset write_asns_laws = (writing_starts, wrote_more, kept_more, written)
