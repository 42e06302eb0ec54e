use Rattle.aspath_normal.proofs.Deduping.{none_left, first_kept, all_down}
use Rattle.aspath_normal.proofs.dedup_down.Goals as goal

pub returns-then-gap-t : goal.returns-then-gap-t
returns-then-gap-t c = none_left _ _ c.requires.0 c.requires.1 c.if-gap-t.true

pub dedup_from-requires : goal.dedup_from-requires
dedup_from-requires c = first_kept _ _ c.requires.0 c.requires.1 c.if-gap-t.false

pub returns : goal.returns
returns c = all_down _ _ c.requires.0 c.requires.1 c.if-gap-t.false _ _ c.dedup_from.ensures
