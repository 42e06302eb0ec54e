use mathlib.Core.Path.{◌≡◌}
use mathlib.Core.Bool.{true, false}
use lib.ListN.{length, drop}
use lib.Dec.{leb}
use Rattle.decimal_display.specs.Printed.{decimal}
use Rattle.aspath_display.specs.Display.{separated}
use Rattle.psv.proofs.has_room.Given as goal

-- the numbers that are left have room in what is left exactly where all have room
abbrev pub invariant-loop-number : goal.invariant-loop-number
invariant-loop-number l =
    leb (length (separated 32 decimal true l.fn.numbers)) l.fn.room ≡ leb (length (separated 32 decimal false (drop l.number-index l.rest))) l.left
