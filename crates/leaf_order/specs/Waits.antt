-- Keys that wait in search work, and the leaves that they stand for: those still to come, in the order of reading.
use Rattle.std.specs.Prelude.{ℕ, ◌+◌, ◌*◌, ◌≤◌, ◌<◌, ◌≡◌, List, map, ℤ, length, take}
use Rattle.heap.specs.Keys.{sorted_of}
use Rattle.heap.specs.Heap.{IsHeap, Pushed, Sunk}
use Rattle.dstree.specs.Measures.{Trace}
use Rattle.dstree.specs.Node.{Tree}
use Rattle.dstree.specs.Matching.{LeafBound, reading_order}
use Rattle.tables.specs.Layout.{kind_place, first_place, right_place, record_places}
use Rattle.tables.specs.Tables.{record_of}
use Rattle.tables.specs.View.{small_at, shape_in}
use Rattle.query.specs.Bounded.{Bounded}
use Rattle.best_first.specs.NodeKeys.{key_leaf, child_key}
use Rattle.best_first.specs.Branching.{Branching}
use Rattle.best_first.specs.Waiting.{to_come, nodes_waiting, Keyed}

-- ---- records

-- records that a search may go through
pub record Walkable (nodes : List ℤ) (m : ℕ) (query : Trace) : Type 0 where
  pub branching : Branching (shape_in nodes m)
  pub record_room : (j : ℕ) → j < m → j * record_places + record_places ≤ length nodes
  pub named : (j : ℕ) → j < m → small_at (record_of nodes j) kind_place ≤ 2
  pub bounded : (j : ℕ) → j < m → Bounded (record_of nodes j) (length query)

-- ---- keys

abbrev pub keys_in : ℕ → List ℕ → List ℕ
keys_in n work = sorted_of (take n work)

-- n keys of nodes wait in `work`, and there is room for all nodes still to be taken
pub record Waits (tree : Tree) (query : Trace) (n : ℕ) (work : List ℕ) : Type 0 where
  pub heap : IsHeap n work
  pub keyed : Keyed tree query (keys_in n work)
  pub fits : n ≤ length work
  pub room : nodes_waiting tree (keys_in n work) ≤ length work

-- the leaves that they stand for
unfoldable pub remaining : Tree → Trace → ℕ → List ℕ → List LeafBound
remaining tree query n work = map key_leaf (to_come tree query (keys_in n work))

-- ---- what calls leave

-- all leaves are to come: "by bound, then by number"
pub record Begun (tree : Tree) (query : Trace) (work : List ℕ) : Type 0 where
  pub waits : Waits tree query 1 work
  pub all : remaining tree query 1 work ≡ reading_order tree query

-- the right child's key takes the place of the least, which is its parent's; then the left one's is put in
pub record ChildrenPushed (tree : Tree) (query : Trace) (n : ℕ) (r : List ℤ) (above : ℕ) (work work' : List ℕ) : Type 0 where
  pub between : List ℕ
  pub long : length between ≡ length work
  pub right : Sunk n (child_key tree query above (small_at r right_place)) work between
  pub left : Pushed n (child_key tree query above (small_at r first_place)) between work'
