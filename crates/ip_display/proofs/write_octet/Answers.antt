use Rattle.std.proofs.Common.{arith, sym}
use Rattle.decimal_display.proofs.Printed.{decimal_short}
use Rattle.output.proofs.Writing.{then}
use Rattle.ip_display.proofs.Writing.{octet_2, octet_3, as_text}
use Rattle.ip_display.proofs.write_octet.Goals as goal

pub returns-in-0-to-9 : goal.returns-in-0-to-9
returns-in-0-to-9 c = as_text _ _ _ _ (sym (decimal_short c.args.o (omega arith))) c.byte.ensures

pub returns-in-10-to-99 : goal.returns-in-10-to-99
returns-in-10-to-99 c = as_text _ _ _ _ (octet_2 c.args.o (omega arith) (omega arith)) (then c.byte-in-10-to-99.ensures c.byte-in-10-to-99-2.ensures)

pub returns-in_default : goal.returns-in_default
returns-in_default c =
    as_text _ _ _ _ (octet_3 c.args.o (omega arith) (omega arith))
    (then (then c.byte-in_default.ensures c.byte-in_default-2.ensures) c.byte-in_default-3.ensures)
