-- The code's types, as the definitions see them.
use Rattle.std.specs.Prelude.{ℕ, ◌≡◌, ◌<◌, List, [], ◌∷◌, Option, Some, None, Result, Ok, Err, MatchResult}
use Rattle.aspath.specs.Record.{Segment as PathSegment, cut, path}
use Rattle.aspath.specs.declared.AsPath.{AsPath}
use Rattle.aspath.specs.declared.PathRecord.{PathRecord}
use Rattle.aspath.specs.declared.Segment.{Segment}
use Rattle.aspath.specs.declared.Segments.{Segments}
use Rattle.aspath.specs.declared.Spoilt.{Spoilt}
use Rattle.aspath.specs.declared.SegmentKind.{SegmentKind}
use Rattle.aspath.specs.declared.SegmentKind.TheVariants.{AsSequence, AsSet, ConfedSequence, ConfedSet}

abbrev pub kind_number : SegmentKind → ℕ
kind_number AsSequence = 0
kind_number AsSet = 1
kind_number ConfedSequence = 2
kind_number ConfedSet = 3

-- a number over 3 is no kind
abbrev pub KindOf : ℕ → Result SegmentKind Spoilt → Type 0
KindOf n r = MatchResult r (λ kind. kind_number kind ≡ n) (λ _. 3 < n)

abbrev pub segment_of : Segment → PathSegment
segment_of x = record { kind = kind_number x.kind; numbers = x.numbers.now }

-- the segments of a path
abbrev pub segments_in : AsPath → List PathSegment
segments_in p = cut p.kinds.now p.lengths.now p.numbers.now

-- those that an iterator has left
abbrev pub segments_left : Segments → List PathSegment
segments_left s = segments_in s.rest

-- a path of which the first segment was taken
abbrev pub parted : Option (Segment × AsPath) → List PathSegment
parted None = []
parted (Some p) = segment_of p.0 ∷ segments_in p.1

-- what a lent record stands for
abbrev pub path_of : PathRecord → Option (List PathSegment)
path_of r = path r.kinds.now r.lengths.now r.numbers.now r.segments r.count

-- what the test of a record hands on
abbrev pub path_checked : Result AsPath Spoilt → Option (List PathSegment)
path_checked (Ok p) = Some (segments_in p)
path_checked (Err e) = None
