use Rattle.std.proofs.Common.{◌≡◌, ◌+◌, ◌/◌, ◌^◌, [], ◌∷◌, length, arith}
use Rattle.decimal_display.specs.Printed.{decimal}
use Rattle.decimal_display.proofs.Printed.{digits_most, length_pos, size, whole_written, behind_written, decimal_short}
use Rattle.decimal_display.proofs.write_small.Goals as goal

pub returns-then-one_digit : goal.returns-then-one_digit
returns-then-one_digit c =
    let one : length (decimal c.args.n) ≡ 1 = omega (arith, digits_most 0 c.args.n, length_pos c.args.n) in search whole_written

pub returns-then-two_digits : goal.returns-then-two_digits
returns-then-two_digits c = let two : length (decimal c.args.n) ≡ 2 = size 1 c.args.n (omega arith) (omega arith) in search whole_written

pub returns-then-three_digits : goal.returns-then-three_digits
returns-then-three_digits c =
    let one : ◌≡◌ (decimal (c.args.n / 10 ^ 2)) ((48 + c.args.n / 100) ∷ []) = decimal_short (c.args.n / 100) (omega arith) in
    behind_written 2 _ (omega arith) _ _ _ _ (rw one c.byte.ensures) c.last_digits-then-three_digits.ensures c.bytes-then-three_digits.ensures

pub returns-else-three_digits : goal.returns-else-three_digits
returns-else-three_digits c = let four : length (decimal c.args.n) ≡ 4 = size 3 c.args.n (omega arith) (omega arith) in search whole_written
