use Rattle.std.proofs.Common.{arith}
use Rattle.aspath_normal.proofs.Merging.{no_overflow, joined, apart, coalesced, first_entry, no_entries}
use Rattle.aspath_normal.proofs.coalesce_entries.Goals as goal
use Rattle.aspath_normal.proofs.coalesce_entries.Goals.{in-Some, in-None}

pub returns-then-is_empty : goal.returns-then-is_empty
returns-then-is_empty c = no_entries _ _ c.requires.0 (grind arith)

pub loop-i-init : goal.loop-i-init
loop-i-init c = first_entry _ _ c.requires.0 c.requires.1 (λ e. grind arith)

pub merge-requires : goal.merge-requires
merge-requires c = omega (arith, no_overflow _ _ _ _ _ _ _ c.loop-i.invariant (omega arith))

pub loop-i-preserved : goal.loop-i-preserved
loop-i-preserved c =
    elim c.match-merge.branch [
      | in-Some w ↦ rw (w.end-is, w.last-is) (joined _ _ _ _ _ _ _ c.loop-i.invariant (omega arith) _ w.in-Some.ensures)
      | in-None w ↦ rw (w.end-is, w.last-is) (apart _ _ _ _ _ _ _ c.loop-i.invariant (omega arith) w.in-None.ensures)
    ]

pub returns : goal.returns
returns c = coalesced _ _ _ _ _ _ _ c.loop-i.invariant (omega arith)
