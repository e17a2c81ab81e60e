-- All rules of "Well-formed tables" on counts, nodes and links.
use Rattle.std.specs.Prelude.{ℕ, ◌*◌, ◌-◌, ◌≤◌, Bool, ◌&&◌, List, ℤ, length, leb, eqb}
use Rattle.std.specs.Bool.{beq}
use Rattle.dstree.specs.Measures.{most_samples, most_traces, most_nodes}
use Rattle.tables.specs.Layout.{record_places}
use Rattle.records_fit.specs.Fits.{records_fit, all_kept}
use Rattle.numbers_fit.specs.Tests.{children_once, leaves_hold}

-- "trace count at most capacity; no node exactly when no trace", and of k traces at most 2k − 1 nodes, which follows from the rules on
-- children and leaves
unfoldable pub counts_fit : ℕ → ℕ → ℕ → Bool
counts_fit m k capacity = leb k capacity && beq (eqb m 0) (eqb k 0) && leb m (2 * k - 1)

-- on nodes and links
unfoldable pub tree_fits : ℕ → ℕ → List ℤ → ℕ → List ℕ → Bool
tree_fits n m nodes k links = records_fit n m nodes && all_kept m nodes && children_once m nodes && leaves_hold m nodes k links

-- the tables have the records of m nodes and the links of k traces, and none of the numbers is above its limit
pub record TreeLent (n m : ℕ) (nodes : List ℤ) (k : ℕ) (links : List ℕ) : Type 0 where
  pub room : m * record_places ≤ length nodes
  pub low : m ≤ most_nodes
  pub short : n ≤ most_samples
  pub linked : k ≤ length links
  pub few : k ≤ most_traces
