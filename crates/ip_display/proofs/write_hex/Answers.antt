use Rattle.std.proofs.Common.{arith}
use Rattle.output.proofs.Writing.{then}
use Rattle.ip_display.proofs.Writing.{hex_1, hex_2, hex_3, hex_4, as_text}
use Rattle.ip_display.proofs.write_hex.Goals as goal

pub returns-in-0-to-15 : goal.returns-in-0-to-15
returns-in-0-to-15 c = as_text _ _ _ _ (rw (hex_1 c.args.g (omega arith), c.hex_byte.ensures)) c.byte.ensures

pub returns-in-16-to-255 : goal.returns-in-16-to-255
returns-in-16-to-255 c =
    as_text _ _ _ _
    (rw (hex_2 c.args.g (omega arith) (omega arith), c.hex_byte-in-16-to-255.ensures, c.hex_byte-in-16-to-255-2.ensures))
    (then c.byte-in-16-to-255.ensures c.byte-in-16-to-255-2.ensures)

pub returns-in-256-to-4095 : goal.returns-in-256-to-4095
returns-in-256-to-4095 c =
    as_text _ _ _ _
    (rw (
      hex_3 c.args.g (omega arith) (omega arith),
      c.hex_byte-in-256-to-4095.ensures,
      c.hex_byte-in-256-to-4095-2.ensures,
      c.hex_byte-in-256-to-4095-3.ensures,
    ))
    (then (then c.byte-in-256-to-4095.ensures c.byte-in-256-to-4095-2.ensures) c.byte-in-256-to-4095-3.ensures)

pub returns-in_default : goal.returns-in_default
returns-in_default c =
    as_text _ _ _ _
    (rw (
      hex_4 c.args.g (omega arith) (omega arith),
      c.hex_byte-in_default.ensures,
      c.hex_byte-in_default-2.ensures,
      c.hex_byte-in_default-3.ensures,
      c.hex_byte-in_default-4.ensures,
    ))
    (then (then (then c.byte-in_default.ensures c.byte-in_default-2.ensures) c.byte-in_default-3.ensures) c.byte-in_default-4.ensures)
