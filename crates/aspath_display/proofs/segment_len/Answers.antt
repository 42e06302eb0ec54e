use Rattle.std.proofs.Common.{rules, ◌≤◌}
use mathlib.Core.Logic.{⊎_elim}
use Rattle.aspath_display.proofs.Text.{set_len, sequence_len}
use Rattle.aspath_display.proofs.segment_len.Goals as goal

pub overflow_add-result : goal.overflow_add-result
overflow_add-result c = let small : c.numbers_len.result ≤ 344064 = (c.numbers_len.ensures 44).small in search rules

pub returns-in-AsSet : goal.returns-in-AsSet
returns-in-AsSet c =
    let len = set_len _ _ (c.numbers_len.ensures 44) in ⊎_elim (λ e. rw e len.0) (λ e. rw e len.1) c.in-AsSet.is

pub returns-in-AsSequence : goal.returns-in-AsSequence
returns-in-AsSequence c =
    let len = sequence_len _ _ (c.numbers_len-in-AsSequence.ensures 32) in ⊎_elim (λ e. rw e len.0) (λ e. rw e len.1) c.in-AsSequence.is
