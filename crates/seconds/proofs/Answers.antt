-- Each answer of the functions over `second_of`, from the tests and answers that lead to it. Assumes nothing.
use Rattle.std.proofs.Common.{◌≡◌, ℕ, ◌+◌, ◌-◌, ◌≤◌, ◌<◌, true, false, pos, le-leb, arith}
use Rattle.std.specs.Prelude.{Option, Some, None, SomeIff}
use borrow.Author.Tests.{lt-leb}
use lib.Ieee.{Float, fin, lt, neg}
use Rattle.seconds.specs.Seconds.{whole_number, before1970, since1970, second_of}

-- the second of t, whose magnitude is r
module _ (t : Float) (r : Option ℕ) where
  module _ (early : lt t (fin false 0 (pos 0)) ≡ true) (is : r ≡ whole_number (neg t)) where
    before : (before1970 r) ≡ second_of t
    unfolding second_of
    before = rw (early, is)

    pub before_none : r ≡ None → None ≡ second_of t
    before_none e = rw e at before

    pub before_some : (n : ℕ) (o : Option ℕ) → r ≡ Some n → SomeIff o (n ≤ 62167219200) (62167219200 - n) → o ≡ second_of t
    before_some n (Some s) e (h, f) = rw f (simp (le-leb n 62167219200 h) at (rw e at before))
    before_some n None e h = let l : 62167219200 < n = omega (arith, h) in simp (lt-leb n 62167219200 l) at (rw e at before)

  module _ (late : lt t (fin false 0 (pos 0)) ≡ false) (is : r ≡ whole_number t) where
    since : (since1970 r) ≡ second_of t
    unfolding second_of
    since = rw (late, is)

    pub since_none : r ≡ None → None ≡ second_of t
    since_none e = rw e at since

    pub since_some : (n : ℕ) → r ≡ Some n → n ≤ 253402300799 → Some (62167219200 + n) ≡ second_of t
    since_some n e h = simp (le-leb n 253402300799 h) at (rw e at since)

    pub since_over : (n : ℕ) → r ≡ Some n → 253402300799 < n → None ≡ second_of t
    since_over n e h = simp (lt-leb n 253402300799 h) at (rw e at since)
