-- Laws of a call that is lent the places behind those that are full.
use mathlib.Core.Path.{◌≡◌, sym, ap, ◌∙◌}
use mathlib.Core.List.{List, [], ◌++◌, append_assoc, append-nil}
use Prim.Native.Nat.{ℕ, ◌+◌, ◌-◌, ◌≤◌}
use native.Mathlib.Omega.{arith}
use native.Mathlib.Nat.{zero-add}
use lib.ListN.{length, take, drop, drop_of_length-le, length-drop}
use lib.Seq.{drop-drop, take_all}
use Rattle.output.specs.Output.{room, overwrite, Written}
use Rattle.output.proofs.Output.{room_inside}

module _ (t out new : List ℕ) (at r : ℕ) (inside : at ≤ length out) (w : Written t (take (length out - at) (drop at out)) 0 new r) where
  lent : take (length out - at) (drop at out) ≡ drop at out
  lent = take_all (length out - at) (drop at out) (omega (arith, length-drop at out))

  none_behind : drop (length out - at) (drop at out) ≡ []
  none_behind = drop_of_length-le (drop at out) (omega (arith, length-drop at out))

  room_behind : room (drop at out) 0 t ≡ room out at t
  unfolding room
  room_behind = rw length-drop (omega arith)

  count_behind : r ≡ room out at t
  count_behind = w.place ∙ rw (lent, zero-add, room_behind)

  pub room_left : at + r ≤ length out
  room_left = omega (arith, count_behind, room_inside out at t inside)

  -- for the whole list it is a writer from there on
  pub behind : Written t out at (take at out ++ (new ++ drop (length out - at) (drop at out))) (at + r)
  unfolding overwrite
  behind =
      record {
        list = rw (w.list, lent, none_behind, append-nil, room_behind, zero-add, drop-drop) (sym (append_assoc (take at out) (take (room out at t) t) (drop (at + room out at t) out)));
        place = ap (λ n. at + n) count_behind;
      }
