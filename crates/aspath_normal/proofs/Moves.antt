-- A list that is rewritten from its front: what is written, the last of it, zeros up to the place that is read next, and what is left.
use mathlib.Core.Path.{◌≡◌, refl, sym, ap, ◌∙◌}
use mathlib.Core.List.{List, [], ◌∷◌, ◌++◌, append_assoc, append-nil}
use Prim.Native.Nat.{ℕ, zero, suc, ◌+◌, ◌-◌, ◌<◌}
use native.Mathlib.Numerals.{add-one}
use native.Mathlib.Omega.{arith}
use lib.ListN.{length, get_or, set, drop, replicate, length-append, length-replicate}
use lib.Seq.{drop-cons, set_at, get_or_at}
use Rattle.aspath_normal.specs.Layout.{padded}

abbrev pub moved : List ℕ → ℕ → ℕ → List ℕ → List ℕ
moved done last n rest = done ++ (last ∷ (replicate n 0 ++ rest))

pub zero_moved : (n : ℕ) (r : List ℕ) → replicate n 0 ++ (0 ∷ r) ≡ 0 ∷ (replicate n 0 ++ r)
zero_moved zero r = refl
zero_moved (suc n) r = ap (λ l. 0 ∷ l) (zero_moved n r)

pub uncons : (l : List ℕ) (i : ℕ) → i < length l → drop i l ≡ get_or l i 0 ∷ drop (i + 1) l
uncons l i h = rw add-one (drop-cons l i 0 h)

-- x is read at i, and i is set to 0
module _ (done : List ℕ) (last n i : ℕ) (e : i ≡ length done + 1 + n) (x : ℕ) (rest l : List ℕ) (s : l ≡ moved done last n (x ∷ rest)) where
  split_there : l ≡ (done ++ (last ∷ replicate n 0)) ++ x ∷ rest
  split_there = s ∙ sym (append_assoc done (last ∷ replicate n 0) (x ∷ rest))

  long : length (done ++ (last ∷ replicate n 0)) ≡ i
  long = simp (length-append, length-replicate) (omega arith)

  pub at_next : get_or l i 0 ≡ x
  at_next = rw split_there (get_or_at (done ++ (last ∷ replicate n 0)) x rest 0 i long)

  pub cleared : set l i 0 ≡ moved done last (suc n) rest
  cleared =
      rw (split_there, set_at (done ++ (last ∷ replicate n 0)) x rest 0 i long)
      (append_assoc done (last ∷ replicate n 0) (0 ∷ rest) ∙ ap (λ r. done ++ (last ∷ r)) (zero_moved n rest))

  -- the last number is replaced, or one more is written
  module _ (v j k : ℕ) where
    pub replaced : j ≡ length done → k ≡ suc n → set (set l i 0) j v ≡ moved done v k rest
    replaced p q = rw (cleared, q) (set_at done last (replicate (suc n) 0 ++ rest) v j (sym p))

    pub added : j ≡ length done + 1 → k ≡ n → set (set l i 0) j v ≡ moved (done ++ (last ∷ [])) v k rest
    added p q =
        rw (cleared, q, ← append_assoc done (last ∷ []) (replicate (suc n) 0 ++ rest))
        (set_at (done ++ (last ∷ [])) 0 (replicate n 0 ++ rest) v j (simp length-append (omega arith)))

-- nothing is left to read
pub finished : (done : List ℕ) (last n : ℕ) (l : List ℕ) → l ≡ moved done last n [] → (q : List ℕ) → q ≡ done ++ (last ∷ [])
    → (size : ℕ) → size - (length done + 1) ≡ n → l ≡ padded size q
finished done last n l s q e size h =
    s ∙ rw (append-nil (replicate {A = ℕ} n 0), e, length-append, h) (sym (append_assoc done (last ∷ []) (replicate n 0)))
