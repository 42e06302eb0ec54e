use Rattle.std.proofs.Common.{rules}
use Rattle.std.proofs.lemmas.Iterator.{YieldsList-from_slice}
use Rattle.std.proofs.lemmas.Iterator.Consumers.{YieldsList-from_copied}
use Rattle.decimal_display.specs.Printed.{decimal}
use Rattle.aspath_display.proofs.Text.{all_written}
use Rattle.aspath_display.proofs.write_numbers.Goals as goal

pub returns : goal.returns
returns c =
    all_written decimal _ (YieldsList-from_copied (YieldsList-from_slice _ cc)) (c.write_each.ensures decimal (λ x v w p. search rules))
