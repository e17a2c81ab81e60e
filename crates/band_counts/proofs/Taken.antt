-- A node that may be counted: what its record's own figures have reached, with what is reached above it, is what it has reached.
use Prim.Native.Nat.{ℕ, ◌<◌, min, max}
use mathlib.Core.Path.{◌≡◌, ap, ap₂, sym, ◌∙◌}
use mathlib.Core.List.{List}
use lib.IntN.{ℤ}
use lib.ListN.{get_or}
use Rattle.dstree.specs.Measures.{Trace}
use Rattle.dstree.specs.Node.{node_at}
use Rattle.dstree.specs.Matching.{own_bound}
use Rattle.dstree.specs.Bands.{own_upper}
use Rattle.tables.specs.Tables.{record_of}
use Rattle.tables.specs.Nodes.{counted_tables, tree_by}
use Rattle.tables.proofs.Views.{tree_node}
use Rattle.tables.proofs.ByKind.{in_tree}
use Rattle.query.specs.Bounded.{bound_by, upper_by}
use Rattle.query.proofs.Own.{own_bound_in, own_upper_in}
use Rattle.band_counts.specs.Reached.{edges_reached, pair_of, by_bound_in, by_upper_in, reached_at, reached_below}
use Rattle.band_counts.specs.Counted.{Countable, CountedTo}
use Rattle.band_counts.proofs.Turns.{node_reached}

module _ {nodes : List ℤ} {links : List ℕ} {k m : ℕ} {query : Trace} {edges : List ℕ} (w : Countable nodes links k m query edges)
    (j : ℕ) (h : j < m) (work list : List ℕ) (c : CountedTo (tree_by nodes links k m) query edges j work list) where
  abbrev r : List ℤ
  r = record_of nodes j

  bound_of : bound_by query r ≡ own_bound query (node_at (tree_by nodes links k m) j)
  bound_of = sym (ap (own_bound query) (tree_node (counted_tables nodes links k m) j h) ∙ own_bound_in query links k r)

  upper_of : upper_by query r ≡ own_upper query (node_at (tree_by nodes links k m) j)
  upper_of = sym (ap (own_upper query) (tree_node (counted_tables nodes links k m) j h) ∙ own_upper_in query links k r)

  pub pair_is : reached_below query edges (get_or work j 0) (record_of nodes j) ≡ reached_at (tree_by nodes links k m) query edges j
  pair_is =
      ap₂ (λ (b u : ℕ). pair_of (max (edges_reached edges b) (by_bound_in (get_or work j 0))) (min (edges_reached edges u) (by_upper_in (get_or work j 0))))
      bound_of upper_of
      ∙ node_reached (tree_by nodes links k m) query edges w.walks.shape.children w.edged j (in_tree w.walks j h) work list c
