use Rattle.std.proofs.Common.{rules, arith}
use Rattle.aspath_normal.proofs.Compacting.{none_compacted, segment_end, compacted, all_compacted}
use Rattle.aspath_normal.proofs.dedup_segments.Goals as goal

pub loop-length-init : goal.loop-length-init
loop-length-init c = none_compacted _ _ c.requires.0

pub loop-length-preserved : goal.loop-length-preserved
loop-length-preserved c = compacted _ _ _ _ _ _ _ c.loop-length.invariant (omega arith) _ _ c.dedup_down-left.ensures

pub returns : goal.returns
returns c = all_compacted _ _ _ _ _ _ _ c.loop-length.invariant (omega arith)

pub slice_bounds-dedup_down-end : goal.slice_bounds-dedup_down-end
slice_bounds-dedup_down-end c = let h = segment_end _ _ _ _ _ _ _ c.loop-length.invariant (omega arith) in search rules
