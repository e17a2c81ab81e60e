-- Nodes that code goes through by number, and the tree that they stand for.
use Rattle.std.specs.Prelude.{ℕ, ◌*◌, ◌≤◌, ◌<◌, List, [], ◌∷◌, ℤ, length}
use Rattle.dstree.specs.Node.{Tree}
use Rattle.dstree.specs.Formed.{Shape}
use Rattle.dstree.specs.Measures.{most_nodes, most_traces}
use Rattle.tables.specs.Layout.{kind_place, record_places}
use Rattle.tables.specs.Tables.{Tables, tables, record_of}
use Rattle.tables.specs.View.{small_at, tree_in}
use Rattle.tables.specs.Walk.{Rising}

-- tables of which only nodes, links and both counts are told
abbrev pub counted_tables : List ℤ → List ℕ → ℕ → ℕ → Tables
counted_tables nodes links k m = tables (0 ∷ 0 ∷ 0 ∷ k ∷ m ∷ []) [] nodes links []

abbrev pub tree_by : List ℤ → List ℕ → ℕ → ℕ → Tree
tree_by nodes links k m = tree_in (counted_tables nodes links k m)

-- m nodes over k traces that may be walked: they are well formed, and in the tables
pub record Walks (nodes : List ℤ) (links : List ℕ) (k m : ℕ) : Type 0 where
  pub n : ℕ
  pub shape : Shape n k (tree_by nodes links k m)
  pub named : (j : ℕ) → j < m → small_at (record_of nodes j) kind_place ≤ 2
  pub few : k ≤ most_traces
  pub nodes_few : m ≤ most_nodes
  pub nodes_room : m * record_places ≤ length nodes
  pub links_room : k ≤ length links
  pub rising : Rising links k
