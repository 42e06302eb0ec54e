use mathlib.Core.Bool.{true, false}
use mathlib.Core.Path.{◌≡◌, sym}
use lib.ListN.{length, get_or}
use Rattle.decimal_display.specs.Printed.{decimal}
use native.Mathlib.Omega.{arith}
use borrow.Author.Rules.{rules}
use borrow.Author.Tests.{le-leb}
use Rattle.psv.proofs.Longest.{sequence_le}
use Rattle.psv.proofs.Printing.{room_more, room_none, room_end, first_more, first_none, none_fit}
use Rattle.psv.proofs.has_room.Goals as goal

pub returns-then-surely : goal.returns-then-surely
returns-then-surely c = sym (le-leb _ _ (omega (arith, sequence_le true c.args.numbers.now (search rules))))

pub returns-in_default : goal.returns-in_default
returns-in_default c = none_fit _ _ c.in_default.ensures.cases

pub returns-in_default-checked_sub : goal.returns-in_default-checked_sub
returns-in_default-checked_sub c =
    let e : c.decimal_len.result ≡ length (decimal c.in-Some.first.now) = search rules in
    rw c.in-Some.ensures.cases.0 (first_none _ _ _ _ e c.in_default-checked_sub.ensures)

pub loop-number-init : goal.loop-number-init
loop-number-init c =
    let e : c.decimal_len.result ≡ length (decimal c.in-Some.first.now) = search rules in
    rw (c.in-Some.ensures.cases.0, c.in-Some-checked_sub.ensures.1) (first_more _ _ _ _ e c.in-Some-checked_sub.ensures.0)

pub returns-in_default-checked_sub-2 : goal.returns-in_default-checked_sub-2
returns-in_default-checked_sub-2 c =
    let m : c.decimal_len-n.result ≡ length (decimal (get_or c.in-Some.rest.now c.loop-number.number-index 0)) = search rules in
    room_none false _ _ _ _ c.loop-number.invariant c.loop-number-test.true _ (omega (arith, m)) c.in_default-checked_sub-2.ensures

pub loop-number-preserved : goal.loop-number-preserved
loop-number-preserved c =
    let m : c.decimal_len-n.result ≡ length (decimal (get_or c.in-Some.rest.now c.loop-number.number-index 0)) = search rules in
    rw c.in-Some-checked_sub-2.ensures.1 (room_more false _ _ _ _ c.loop-number.invariant c.loop-number-test.true _ (omega (arith, m)) c.in-Some-checked_sub-2.ensures.0)

pub returns : goal.returns
returns c = room_end false _ _ _ _ c.loop-number.invariant c.loop-number-test.false
