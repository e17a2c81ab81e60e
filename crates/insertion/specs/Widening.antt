-- What has to hold of a record so that a trace can go through it, and how a record is widened segment by segment.
use Rattle.std.specs.Prelude.{ℕ, zero, suc, ◌+◌, ◌≤◌, ◌<◌, ◌≡◌, List, ◌++◌, ℤ, length, take, drop, set}
use Rattle.integer.specs.Words.{lesser, greater}
use Rattle.segment.specs.Limits.{scatter_room}
use Rattle.dstree.specs.Node.{Segment, most_segments}
use Rattle.tables.specs.Layout.{segments_place, segment_places, segment_at, record_places}
use Rattle.tables.specs.View.{value_at, small_at, segment_in}
use Rattle.tables.specs.Runs.{Inside}
use Rattle.insertion_memory.specs.Records.{segment_fields}

-- a range of a record, its least at a place and its greatest behind that, with a figure in it too
abbrev pub range_with : List ℤ → ℕ → ℤ → List ℤ
range_with r place v = set (set r place (lesser (value_at r place) v)) (place + 1) (greater (value_at r (place + 1)) v)

-- segment i's five places as those of another segment, every other place as it was
unfoldable pub with_segment : List ℤ → ℕ → Segment → List ℤ
with_segment r i s = take (segment_at i) r ++ (segment_fields s ++ drop (segment_at i + segment_places) r)

-- the right end of a record's segment i, and its first sample: 1, or the sample behind the end before it
abbrev pub end_in : List ℤ → ℕ → ℕ
end_in r i = small_at r (segment_at i)

abbrev pub start_in : List ℤ → ℕ → ℕ
start_in r zero = 1
start_in r (suc i) = suc (end_in r i)

-- a segment whose run is inside 1 to n, with scatters that are no larger than any limit
pub record SegmentReadable (r : List ℤ) (i first n : ℕ) : Type 0 where
  pub on : Inside n first (end_in r i)
  pub least_scatter_lem : (segment_in r i).least_scatter ≤ scatter_room
  pub greatest_scatter_lem : (segment_in r i).greatest_scatter ≤ scatter_room

-- a record of at most 16 such segments, each behind the one before it
pub record Readable (r : List ℤ) (n : ℕ) : Type 0 where
  pub size : length r ≡ record_places
  pub few : small_at r segments_place ≤ most_segments
  pub segment : (i : ℕ) → i < small_at r segments_place → SegmentReadable r i (start_in r i) n
