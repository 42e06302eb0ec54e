use Rattle.std.proofs.Common.{◌≤◌, length, arith}
use Rattle.decimal_display.specs.Printed.{decimal}
use Rattle.output.proofs.Writing.{holds}
use Rattle.decimal_display.proofs.Printed.{digits_most}
use Rattle.decimal_display.proofs.put_u64.Goals as goal

pub returns : goal.returns
returns c =
    let short : length (decimal c.args.n) ≤ 20 = digits_most 19 c.args.n (omega arith) in
    rw (holds c.write_u64.ensures c.new-w.ensures.0 (rw c.new-w.ensures.2 short) c.text.ensures) at c.put.ensures
