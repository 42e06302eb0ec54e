use Rattle.std.proofs.Common.{rules, tests, sym}
use lib.Dec.{eqb}
use Rattle.std.proofs.lemmas.Iterator.Splits.{YieldsList-from_slice_split}
use Rattle.ipv6.proofs.Sides.{side_start, side_last, side_stop, side_full, side_next}
use Rattle.ipv6.proofs.side.Goals as goal

pub loop-part-init : goal.loop-part-init
loop-part-init c =
    side_start _ _ _ _ _ _ _ c.next.ensures.steps (sym c.if-is_empty.ensures)
    (YieldsList-from_slice_split _ (λ b. eqb b 58) _ c.split-parts.ensures.rest c.split-parts.ensures.done c.split-parts.ensures.closure (λ x r q k. search (rules, tests)))
    _ c.in_ok-last.was _ c.into_iter-part-iterator.ensures.into_iter_gives

pub returns-in_err-group : goal.returns-in_err-group
returns-in_err-group c =
    rw c.from_residual-in_err-group.ensures
    (side_stop _ _ _ _ _ _ _ c.next-in-loop-part.ensures.steps _ _ c.loop-part.invariant _ c.in-Some.is _ c.group.ensures c.in_err-group.was)

pub returns-in_err-r : goal.returns-in_err-r
returns-in_err-r c =
    rw c.from_residual-in_err-r.ensures
    (side_full _ _ _ _ _ _ _ c.next-in-loop-part.ensures.steps _ _ c.loop-part.invariant _ c.in-Some.is _ c.group.ensures _ c.in_ok-group.was _ c.push.ensures c.in_err-r.was)

pub loop-part-preserved : goal.loop-part-preserved
loop-part-preserved c =
    side_next _ _ _ _ _ _ _ c.next-in-loop-part.ensures.steps _ _ c.loop-part.invariant _ c.in-Some.is _ c.group.ensures _ c.in_ok-group.was _ c.push.ensures _ c.in_ok-r.was

pub returns : goal.returns
returns c = side_last _ _ _ _ _ _ _ c.next-in-loop-part.ensures.steps _ _ c.loop-part.invariant c.in-None.is _ c.last_part.ensures
