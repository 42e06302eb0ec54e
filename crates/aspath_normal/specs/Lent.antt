-- A path record that is lent for change, and what a call leaves in its lists.
use Rattle.std.specs.Prelude.{◌≡◌, List, Option}
use Rattle.aspath.specs.Record.{Segment, path, kinds_of, lengths_of, numbers_of}
use Rattle.aspath.specs.declared.PathRecord.{PathRecord}
use Rattle.aspath_normal.specs.Layout.{after}
use Rattle.aspath_normal.specs.declared.LentPath.{LentPath}

-- what it stands for: its segments, or nothing where it is spoilt
abbrev pub path_lent : LentPath → Option (List Segment)
path_lent r = path r.kinds.now r.lengths.now r.numbers.now r.segments r.count

-- a record that reads it
pub record Reads (lent : LentPath) (r : PathRecord) : Type 0 where
  pub kinds : r.kinds.now ≡ lent.kinds.now
  pub lengths : r.lengths.now ≡ lent.lengths.now
  pub numbers : r.numbers.now ≡ lent.numbers.now
  pub segments : r.segments ≡ lent.segments
  pub count : r.count ≡ lent.count

-- the same lists and counts are lent, and f of the path P stands in the lists; where P is nothing they are as they were
pub record LeftAs (f : List Segment → List Segment) (P : Option (List Segment)) (old new : LentPath) : Type 0 where
  pub same_kinds : new.kinds.ghost_name ≡ old.kinds.ghost_name
  pub same_lengths : new.lengths.ghost_name ≡ old.lengths.ghost_name
  pub same_numbers : new.numbers.ghost_name ≡ old.numbers.ghost_name
  pub same_segments : new.segments ≡ old.segments
  pub same_count : new.count ≡ old.count
  pub kinds : new.kinds.now ≡ after (λ p. kinds_of (f p)) P old.segments old.kinds.now
  pub lengths : new.lengths.now ≡ after (λ p. lengths_of (f p)) P old.segments old.lengths.now
  pub numbers : new.numbers.now ≡ after (λ p. numbers_of (f p)) P old.count old.numbers.now
