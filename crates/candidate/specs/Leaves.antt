-- What is known of a leaf, its node's right ends and its spread over them.
use Rattle.std.specs.Prelude.{◌≤◌, ◌≡◌}
use Rattle.segment.specs.Limits.{spread_most}
use Rattle.dstree.specs.Adding.{traces_of, spread}
use Rattle.dstree.specs.Formed.{Rises}
use Rattle.leaf_figures.specs.Ends.{ends_of, EndsRoom}
use Rattle.leaf_figures.specs.Rows.{stored_of}
use Rattle.candidate.specs.declared.leaf.Leaf.{Leaf}

pub record LeafKnown (x : Leaf) : Type 0 where
  pub room : EndsRoom x.ends
  pub rise : Rises x.rows.traces.n 1 (ends_of x.ends)
  pub spread_is : x.whole ≡ spread (ends_of x.ends) (traces_of (stored_of x.rows.traces) x.rows.traces.list.now)
  pub size : x.whole ≤ spread_most
