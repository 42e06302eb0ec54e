-- What is known of a line whose columns are cut without a test: each has its slice.
use Rattle.std.specs.Prelude.{ℕ, ◌≡◌, true, List, length}
use Rattle.utf8.specs.Edge.{has_slice}
use Rattle.columns.specs.declared.Columns.{Columns}

pub record Whole (c : Columns) (t : List ℕ) : Type 0 where
  pub prefix_slice : has_slice t 3 c.next_hop ≡ true
  pub hop_slice : has_slice t c.next_hop c.metric ≡ true
  pub metric_slice : has_slice t c.metric c.local_pref ≡ true
  pub pref_slice : has_slice t c.local_pref c.weight ≡ true
  pub path_slice : has_slice t c.path (length t) ≡ true
