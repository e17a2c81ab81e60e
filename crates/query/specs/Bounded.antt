-- A node's record whose bound or upper figure is worked out: what is asked of it, and the two.
use Rattle.std.specs.Prelude.{ℕ, ◌≡◌, List, ℤ, length}
use Rattle.dstree.specs.Measures.{Trace, sample_limit}
use Rattle.dstree.specs.Node.{ends, total_over}
use Rattle.dstree.specs.Formed.{Fits, AllLimited}
use Rattle.dstree.specs.Matching.{bound_on}
use Rattle.dstree.specs.Bands.{upper_on}
use Rattle.tables.specs.Layout.{record_places}
use Rattle.tables.specs.View.{segments_in}

-- a record whose segments are those of well-formed tables over n samples
pub record Bounded (r : List ℤ) (n : ℕ) : Type 0 where
  pub places : length r ≡ record_places
  pub fits : Fits n (ends (segments_in r))
  pub limited : AllLimited sample_limit 1 (segments_in r)

-- the own bound of the node that a record stands for, leaf or inner node
abbrev pub bound_by : Trace → List ℤ → ℕ
bound_by query r = total_over (bound_on query) 1 (segments_in r)

-- .. and its own upper figure
abbrev pub upper_by : Trace → List ℤ → ℕ
upper_by query r = total_over (upper_on query) 1 (segments_in r)
