use Rattle.std.proofs.Common.{◌≤◌, length, sym}
use Rattle.std.proofs.Math.Seq.{length-take-le}
use Rattle.aspath_normal.proofs.Whole.{fit₃, fit₄, segments_there, numbers_there, normal_in}
use Rattle.aspath_normal.proofs.normalise.Goals as goal
use Rattle.aspath_normal.proofs.normalise.Goals.{After-coalesce_entries-segments}

-- there are as many places as the counts say
room : (c : After-coalesce_entries-segments) → (c.coalesce_entries-segments.result ≤ length c.coalesce_entries-segments.new.lengths)
    × (c.dedup_segments-count.result ≤ length c.dedup_segments-count.new.numbers)
room c = (
  segments_there _ _ _ c.requires _ c.sort_sets.ensures _ _ _ c.dedup_segments-count.ensures c.dedup_segments-count.auto.numbers _
      c.single_sets.ensures _ _ _ c.coalesce_entries-segments.ensures c.coalesce_entries-segments.auto.lengths,
  numbers_there _ _ _ c.requires _ c.sort_sets.ensures _ _ _ c.dedup_segments-count.ensures c.dedup_segments-count.auto.numbers _
      c.single_sets.ensures _ _ _ c.coalesce_entries-segments.ensures c.coalesce_entries-segments.auto.lengths,
)

pub coalesce_entries-segments-requires : goal.coalesce_entries-segments-requires
coalesce_entries-segments-requires c = fit₃ _ _ _ c.requires _ c.sort_sets.ensures _ _ _ c.dedup_segments-count.ensures c.dedup_segments-count.auto.numbers _ c.single_sets.ensures

pub slice_bounds-dedup_segments-end : goal.slice_bounds-dedup_segments-end
slice_bounds-dedup_segments-end c = (room (goal.at.slice_bounds-dedup_segments-end c).After-coalesce_entries-segments).0

pub slice_bounds-dedup_segments-end-2 : goal.slice_bounds-dedup_segments-end-2
slice_bounds-dedup_segments-end-2 c = sym (length-take-le _ _ (room (goal.at.slice_bounds-dedup_segments-end-2 c).After-coalesce_entries-segments).0)

pub slice_bounds-dedup_segments-end-3 : goal.slice_bounds-dedup_segments-end-3
slice_bounds-dedup_segments-end-3 c = (room (goal.at.slice_bounds-dedup_segments-end-3 c).After-coalesce_entries-segments).1

pub slice_bounds-dedup_segments-end-4 : goal.slice_bounds-dedup_segments-end-4
slice_bounds-dedup_segments-end-4 c = sym (length-take-le _ _ (room (goal.at.slice_bounds-dedup_segments-end-4 c).After-coalesce_entries-segments).1)

pub dedup_segments-left-requires : goal.dedup_segments-left-requires
dedup_segments-left-requires c = fit₄ _ _ _ c.requires _ c.sort_sets.ensures _ _ _ c.dedup_segments-count.ensures c.dedup_segments-count.auto.numbers _ c.single_sets.ensures _ _ _ c.coalesce_entries-segments.ensures c.coalesce_entries-segments.auto.lengths

pub returns : goal.returns
returns c = normal_in _ _ _ c.requires _ c.sort_sets.ensures _ _ _ c.dedup_segments-count.ensures c.dedup_segments-count.auto.numbers _ c.single_sets.ensures _ _ _ c.coalesce_entries-segments.ensures c.coalesce_entries-segments.auto.lengths _ _ _ c.dedup_segments-left.ensures c.dedup_segments-left.auto.numbers
