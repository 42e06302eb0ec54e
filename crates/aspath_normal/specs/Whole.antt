-- A record that fills its lists, and its normal form in place.
use Rattle.std.specs.Prelude.{ℕ, ◌≤◌, ◌≡◌, List, length}
use Rattle.aspath.specs.Lists.{sum}
use Rattle.aspath.specs.Record.{cut, kinds_of, lengths_of, numbers_of}
use Rattle.aspath_normal.specs.Normal.{dedup_coalesce}
use Rattle.aspath_normal.specs.Layout.{padded}

pub record Fit (ks ls ns : List ℕ) : Type 0 where
  pub same : length ks ≡ length ls
  pub sums : sum ls ≡ length ns
  pub few : length ns ≤ 16384

-- the lists after dedup_coalesce, and the counts of the segments and numbers left
pub record NormalIn (ks ls ns ks' ls' ns' : List ℕ) (s n : ℕ) : Type 0 where
  pub segments : s ≡ length (dedup_coalesce (cut ks ls ns))
  pub count : n ≡ length (numbers_of (dedup_coalesce (cut ks ls ns)))
  pub kinds : ks' ≡ padded (length ks) (kinds_of (dedup_coalesce (cut ks ls ns)))
  pub lengths : ls' ≡ padded (length ls) (lengths_of (dedup_coalesce (cut ks ls ns)))
  pub numbers : ns' ≡ padded (length ns) (numbers_of (dedup_coalesce (cut ks ls ns)))
