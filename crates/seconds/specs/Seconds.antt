-- Timestamps (01, Records): an f64 holding a whole number, -62167219200 to 253402300799, never negative zero. It counts seconds from 1970.
-- A second is the same moment counted from the start of the year 0, a number from 0 to 315569519999.
use Rattle.std.specs.Prelude.{is_some, ℕ, ◌+◌, ◌-◌, ◌%◌, Bool, false, cond, List, pos, from_bits, nat_le, nat_lt, Float, Option, Some, None}
use Rattle.std.specs.Float.{fin, binary64}
use Rattle.std.specs.Float.Ieee.{lt, neg, in_unsigned, to_unsigned, of_int}
use Rattle.decimal_display.specs.Printed.{difference}

-- the whole number that x is: finite, with no fraction, 0 or more, at most 2 ^ 53, and not -0 (IEEE 754; `in_unsigned` of lib.Ieee)
abbrev pub whole_number : Float → Option ℕ
whole_number x = cond (in_unsigned binary64 64 x) (Some (to_unsigned 64 x)) None

-- n seconds before the start of 1970, which is 62167219200 seconds after that of the year 0
abbrev pub before1970 : Option ℕ → Option ℕ
before1970 (Some n) = cond (nat_le n 62167219200) (Some (62167219200 - n)) None
before1970 None = None

-- n seconds after it, and not after the year 9999
abbrev pub since1970 : Option ℕ → Option ℕ
since1970 (Some n) = cond (nat_le n 253402300799) (Some (62167219200 + n)) None
since1970 None = None

-- the second of the timestamp t; none where t is no timestamp
unfoldable pub second_of : Float → Option ℕ
second_of t = cond (lt t (fin false 0 (pos 0))) (before1970 (whole_number (neg t))) (since1970 (whole_number t))

-- the timestamp of a second
unfoldable pub timestamp_of : ℕ → Float
timestamp_of second =
    cond (nat_lt second 62167219200) (neg (of_int binary64 (pos (62167219200 - second)))) (of_int binary64 (pos (second - 62167219200)))

-- whether t is a timestamp
abbrev pub is_timestamp : Float → Bool
is_timestamp t = is_some (second_of t)

-- the float of these bits, of which a NaN's are none
abbrev pub float_of_bits : ℕ → Option Float
float_of_bits bits = cond (nat_lt 0x7ff0_0000_0000_0000 (bits % 0x8000_0000_0000_0000)) None (Some (from_bits binary64 bits))

-- the timestamp whose bits these are
abbrev pub if_timestamp : Float → Option Float
if_timestamp t = cond (is_timestamp t) (Some t) None

unfoldable pub timestamp_of_bits : ℕ → Option Float
timestamp_of_bits bits = if_timestamp (from_bits binary64 bits)

-- the timestamp of a second, printed
abbrev pub timestamp_text : ℕ → List ℕ
timestamp_text second = difference second 62167219200
