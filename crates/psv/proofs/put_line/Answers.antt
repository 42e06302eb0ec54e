use native.Mathlib.Omega.{arith}
use mathlib.Core.Path.{◌≡◌, sym, ap, ◌∙◌}
use lib.ListN.{length, length-take}
use borrow.Author.Rules.{rules}
use Prim.Native.Nat.{◌+◌, ◌-◌, ◌≤◌}
use Rattle.std.specs.Prelude.{Err}
use Rattle.output.proofs.Writing.{then, holds}
use Rattle.elem.proofs.Spoilt.{count_within}
use Rattle.psv.specs.declared.ElementError.TheVariants.{TooShort}
use Rattle.psv.specs.Line.{begin_text}
use Rattle.psv.proofs.Printing.{no_ends, no_path, line_put}
use Rattle.psv.proofs.Longest.{begin_le}
use Rattle.psv.proofs.put_line.Goals as goal

pub slice_bounds-numbers-end : goal.slice_bounds-numbers-end
slice_bounds-numbers-end c =
    simp length-take (omega (arith, count_within _ _ (sym c.is_spoilt_element.ensures ∙ c.if-is_spoilt_element.false)))

pub returns-in_err-room : goal.returns-in_err-room
returns-in_err-room c =
    let h : length (begin_text c.args.e) ≤ 158 = search begin_le in
    let b : c.text-begin.result.now ≡ begin_text c.args.e = holds c.write_begin.ensures c.new-begin.ensures.0 (rw c.new-begin.ensures.2 h) c.text-begin.ensures in
    let l : ¬ (length c.text-begin.result.now + length c.args.tail.now ≤ length c.args.out.now) = search rules in
    let z : c.from_residual.result ≡ Err TooShort = search rules in
    rw z (no_ends _ _ _ _ _ _ c.is_spoilt_element.ensures c.if-is_spoilt_element.false _ (ap length b) l)

pub returns-then-not-has_room : goal.returns-then-not-has_room
returns-then-not-has_room c =
    let h : length (begin_text c.args.e) ≤ 158 = search begin_le in
    let b : c.text-begin.result.now ≡ begin_text c.args.e = holds c.write_begin.ensures c.new-begin.ensures.0 (rw c.new-begin.ensures.2 h) c.text-begin.ensures in
    let l : length c.text-begin.result.now + length c.args.tail.now ≤ length c.args.out.now = search rules in
    let z : c.in_ok-room.room ≡ length c.args.out.now - (length c.text-begin.result.now + length c.args.tail.now) = search rules in
    no_path _ _ _ _ _ _ c.is_spoilt_element.ensures c.if-is_spoilt_element.false _ (ap length b) _ l z _ c.has_room.ensures c.if-not-has_room.true

pub returns : goal.returns
returns c =
    let h : length (begin_text c.args.e) ≤ 158 = search begin_le in
    let b : c.text-begin.result.now ≡ begin_text c.args.e = holds c.write_begin.ensures c.new-begin.ensures.0 (rw c.new-begin.ensures.2 h) c.text-begin.ensures in
    let l : length c.text-begin.result.now + length c.args.tail.now ≤ length c.args.out.now = search rules in
    let z : c.in_ok-room.room ≡ length c.args.out.now - (length c.text-begin.result.now + length c.args.tail.now) = search rules in
    let first = rw b at c.bytes.ensures in
    line_put _ _ _ _ _ _ c.is_spoilt_element.ensures c.if-is_spoilt_element.false _ (ap length b) _ l z _ c.has_room.ensures c.if-not-has_room.false _ _ c.new-w.ensures.2 c.new-w.ensures.0 (then (then first c.write_numbers.ensures) c.bytes-2.ensures) _ (search rules)
