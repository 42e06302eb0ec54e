use mathlib.Core.Logic.{⊎_elim}
use Rattle.aspath_display.proofs.Text.{set_written, sequence_written}
use Rattle.aspath_display.proofs.write_segment.Goals as goal

pub returns-in-AsSet : goal.returns-in-AsSet
returns-in-AsSet c =
    let text = set_written _ _ _ c.write_set.ensures in ⊎_elim (λ e. rw e text.0) (λ e. rw e text.1) c.in-AsSet.is

pub returns-in-AsSequence : goal.returns-in-AsSequence
returns-in-AsSequence c =
    let text = sequence_written _ _ _ c.write_numbers.ensures in ⊎_elim (λ e. rw e text.0) (λ e. rw e text.1) c.in-AsSequence.is
