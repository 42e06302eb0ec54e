use Rattle.aspath_normal.proofs.Answers.{coalesced_counts, coalesced_kinds, coalesced_lengths}
use Rattle.aspath_normal.proofs.coalesce.Goals as goal

pub returns : goal.returns
returns c = record {
  value = coalesced_counts _ _ _ _ _ _ c.in_ok-check.ensures _ _ _ c.coalesce_entries-left.ensures;
  kinds = coalesced_kinds _ _ _ _ _ _ c.in_ok-check.ensures _ _ _ c.coalesce_entries-left.ensures;
  lengths = coalesced_lengths _ _ _ _ _ _ c.in_ok-check.ensures _ _ _ c.coalesce_entries-left.ensures;
}
