-- A record's segments, and a side that makes a new leaf.
use Rattle.std.specs.Prelude.{ℕ, ◌+◌, ◌*◌, ◌<◌, ◌≡◌, List, ◌++◌, ℤ, length, get_or, take, drop}
use Rattle.dstree.specs.Measures.{most_traces}
use Rattle.dstree.specs.Node.{Segment}
use Rattle.tables.specs.Layout.{head_places, segment_places}
use Rattle.dstree.specs.Adding.{segments_of}
use Rattle.dstree.specs.Formed.{Rises}
use Rattle.leaf_figures.specs.Sides.{IsStored, side_numbers, side_traces}
use Rattle.leaf_figures.specs.declared.stored.StoredLeaf.{StoredLeaf}
use Rattle.leaf_figures.specs.Ends.{ends_of, EndsRoom}
use Rattle.leaf_figures.specs.declared.ends.Ends.{Ends}
use Rattle.insertion_memory.specs.Records.{fields_of, leaf_record}

-- a record with other segments, from the first on; the head stays, and so does what is behind them
unfoldable pub with_segments : List ℤ → List Segment → List ℤ
with_segments r segments = take head_places r ++ (fields_of segments ++ drop (head_places + segment_places * length segments) r)

-- the traces of a leaf with a mark, some at least, and the right ends of the new leaf's segments
pub record Side (x : StoredLeaf) (marks : List ℕ) (mark : ℕ) (e : Ends) : Type 0 where
  pub stored : IsStored x
  pub all_marks : length marks ≡ most_traces
  pub room : EndsRoom e
  pub rise : Rises x.n 1 (ends_of e)
  pub some : 0 < length (side_numbers x marks mark)

-- the record of a new leaf: those of a leaf's traces with a mark, over these right ends
abbrev pub side_record : StoredLeaf → List ℕ → ℕ → List ℕ → List ℤ
side_record x marks mark ends = leaf_record (segments_of ends (side_traces x marks mark)) (get_or (side_numbers x marks mark) 0 0)
