-- A text copied in steps of n bytes, the last n once more.
use mathlib.Core.Path.{◌≡◌, sym, ap, ◌∙◌}
use mathlib.Core.List.{List}
use Prim.Native.Nat.{ℕ, ◌+◌, ◌≤◌}
use native.Mathlib.Omega.{arith}
use lib.ListN.{length, take, drop, length-drop}
use lib.Seq.{paste, take-paste, take-add, take-take, take_all}

-- the n bytes from i on, behind those in front of i
pub step_copied : (t out new : List ℕ) (i n : ℕ) → i + n ≤ length t → length out ≡ length t → take i out ≡ take i t
    → new ≡ paste out i (drop i t) n → take (i + n) new ≡ take (i + n) t
step_copied t out new i n h l e f =
    rw (f, take-paste out i (drop i t) n (omega arith) (simp length-drop (omega arith)), e) (sym (take-add i n t))

-- fewer bytes stand there too
pub fewer : (t out : List ℕ) (i k : ℕ) → k ≤ i → take i out ≡ take i t → take k out ≡ take k t
fewer t out i k h e = sym (take-take k i out h) ∙ ap (take k) e ∙ take-take k i t h

-- and the last n
pub last_copied : (t out new : List ℕ) (i n : ℕ) → i + n ≡ length t → length out ≡ length t → length new ≡ length t → take i out ≡ take i t
    → new ≡ paste out i (drop i t) n → new ≡ t
last_copied t out new i n h l m e f =
    sym (take_all (i + n) new (omega arith)) ∙ step_copied t out new i n (omega arith) l e f ∙ take_all (i + n) t (omega arith)
