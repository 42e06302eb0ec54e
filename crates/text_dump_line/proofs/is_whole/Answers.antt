use native.Mathlib.Omega.{arith}
use Rattle.std.proofs.lemmas.Grind.{common_steps}
use Rattle.text_dump_line.proofs.LineLaws.{ascii_whole}
use Rattle.text_dump_line.proofs.is_whole.Goals as goal

pub returns-then-c-t : goal.returns-then-c-t
returns-then-c-t c = λ f. ascii_whole _ _ _ (c.requires (grind (arith, common_steps))) c.are_rising.ensures (grind (arith, common_steps)) (grind (arith, common_steps)) f
