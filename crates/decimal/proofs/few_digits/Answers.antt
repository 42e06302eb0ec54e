use Rattle.std.proofs.Common.{◌≡◌, ◌<◌, ◌*◌, ◌+◌, ◌-◌, ◌^◌, true, get_or, sym, ◌∙◌, arith}
use Rattle.decimal.specs.Decimal.{is_digit}
use Rattle.decimal.proofs.Power.{power_small}
use Rattle.decimal.proofs.Reading.{start, at_end_lem, no_digit_at, more, few_more, few_small}
use Rattle.decimal.proofs.few_digits.Goals as goal

pub loop-b-init : goal.loop-b-init
loop-b-init c = (omega arith, start c.args.s.now c.requires.0)

pub returns-then-not-is_ascii_digit : goal.returns-then-not-is_ascii_digit
returns-then-not-is_ascii_digit c =
    let k = c.loop-b in
    no_digit_at c.args.s.now k.b-index k.v k.invariant.1 c.loop-b-test.true (sym c.is_ascii_digit.ensures.value ∙ c.if-not-is_ascii_digit.true)

pub overflow_mul-v : goal.overflow_mul-v
overflow_mul-v c =
    let k = c.loop-b in
    let b = get_or c.args.s.now k.b-index 0 in
    let d : is_digit (get_or c.args.s.now k.b-index 0) ≡ true = sym c.is_ascii_digit.ensures.value ∙ c.if-not-is_ascii_digit.false in
    omega (arith, few_small k.b-index k.v b k.invariant.0 d (omega (arith, c.requires.1, c.loop-b-test.true)))

pub overflow_add-v : goal.overflow_add-v
overflow_add-v c =
    let k = c.loop-b in
    let b = get_or c.args.s.now k.b-index 0 in
    let d : is_digit (get_or c.args.s.now k.b-index 0) ≡ true = sym c.is_ascii_digit.ensures.value ∙ c.if-not-is_ascii_digit.false in
    omega (arith, few_small k.b-index k.v b k.invariant.0 d (omega (arith, c.requires.1, c.loop-b-test.true)))

pub loop-b-preserved : goal.loop-b-preserved
loop-b-preserved c =
    let k = c.loop-b in
    let d : is_digit (get_or c.args.s.now k.b-index 0) ≡ true = sym c.is_ascii_digit.ensures.value ∙ c.if-not-is_ascii_digit.false in
    let next : k.v * 10 + c.from.result ≡ k.v * 10 + (get_or c.args.s.now k.b-index 0 - 48) = omega arith in
    (rw next (few_more k.b-index k.v (get_or c.args.s.now k.b-index 0) k.invariant.0 d), rw next (more c.args.s.now k.b-index k.v k.invariant.1 c.loop-b-test.true d))

pub returns : goal.returns
returns c =
    let k = c.loop-b in
    let small : k.v < 2 ^ 64 = omega (arith, k.invariant.0, power_small k.b-index (omega (arith, c.requires.1))) in
    at_end_lem c.args.s.now k.b-index k.v k.invariant.1 c.loop-b-test.false small
