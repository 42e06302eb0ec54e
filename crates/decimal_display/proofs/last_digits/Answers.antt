use Rattle.std.proofs.Common.{◌≡◌, ◌+◌, ◌-◌, ◌++◌, arith, length-set, sym, drop}
use Rattle.decimal_display.specs.Printed.{last_digits}
use Rattle.decimal_display.proofs.Printed.{digit_put}
use Rattle.decimal_display.proofs.last_digits.Goals as goal

pub loop-i-preserved : goal.loop-i-preserved
loop-i-preserved g c =
    let z : c.loop-i.i - 1 + 1 ≡ c.loop-i.i = omega arith in
    (simp length-set c.loop-i.invariant.0, digit_put _ _ _ _ _ (omega arith) (rw z c.loop-i.invariant.1))

pub returns : goal.returns
unfolding last_digits
returns g c =
    let z : c.loop-i.i ≡ 0 = omega arith in
    let front : last_digits g.row.K c.args.n ≡ last_digits 0 c.loop-i.y ++ drop 0 c.loop-i.digits = rw z at c.loop-i.invariant.1 in sym front
