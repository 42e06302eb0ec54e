use Rattle.std.proofs.Common.{◌≡◌, ◌<◌, ◌*◌, ◌+◌, ◌-◌, ◌^◌, true, get_or, sym, ◌∙◌, arith}
use Rattle.decimal.specs.Decimal.{is_digit}
use Rattle.decimal.proofs.Reading.{start, at_end_lem, no_digit_at, more, over}
use Rattle.decimal.proofs.many_digits.Goals as goal

pub loop-b-init : goal.loop-b-init
loop-b-init c = (omega arith, start c.args.s.now c.requires)

pub returns-then-not-is_ascii_digit : goal.returns-then-not-is_ascii_digit
returns-then-not-is_ascii_digit c =
    let k = c.loop-b in
    no_digit_at c.args.s.now k.b-index k.v k.invariant.1 c.loop-b-test.true (sym c.is_ascii_digit.ensures.value ∙ c.if-not-is_ascii_digit.true)

pub returns-in_err-v : goal.returns-in_err-v
returns-in_err-v c =
    let k = c.loop-b in
    let d : is_digit (get_or c.args.s.now k.b-index 0) ≡ true = sym c.is_ascii_digit.ensures.value ∙ c.if-not-is_ascii_digit.false in
    c.from_residual.ensures ∙ over c.args.s.now k.b-index k.v k.invariant.1 c.loop-b-test.true d (let big : c.loop-b.v * 10 + c.from.result < 2 ^ 64 → ⊥ = c.in_err-v.ensures {u = tt} in omega arith)

pub loop-b-preserved : goal.loop-b-preserved
loop-b-preserved c =
    let k = c.loop-b in
    let d : is_digit (get_or c.args.s.now k.b-index 0) ≡ true = sym c.is_ascii_digit.ensures.value ∙ c.if-not-is_ascii_digit.false in
    let next : c.in_ok-v.v ≡ k.v * 10 + (get_or c.args.s.now k.b-index 0 - 48) = omega (arith, c.in_ok-v.ensures) in
    (omega (arith, c.in_ok-v.ensures), rw next (more c.args.s.now k.b-index k.v k.invariant.1 c.loop-b-test.true d))

pub returns : goal.returns
returns c = at_end_lem c.args.s.now c.loop-b.b-index c.loop-b.v c.loop-b.invariant.1 c.loop-b-test.false c.loop-b.invariant.0
