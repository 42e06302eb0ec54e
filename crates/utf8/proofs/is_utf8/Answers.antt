use mathlib.Core.Path.{◌∙◌}
use Rattle.utf8.proofs.LibraryLaws.{ok_readable}
use Rattle.utf8.proofs.is_utf8.Goals as goal

pub returns : goal.returns
returns c = c.is_ok.ensures.value ∙ ok_readable _ _ _ _ c.from_utf8.ensures.cases (λ x p. p.1) (λ e p. p.0)
