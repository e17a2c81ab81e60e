-- What it means that nodes and links stand for a tree: each record reads as its node, a leaf's list by the links, and the tree has its
-- shape. Of a leaf's record it is said which list the links follow from its first number on, without fuel.
use Rattle.std.specs.Prelude.{ℕ, ◌*◌, ◌-◌, ◌≤◌, ◌<◌, ◌≡◌, List, ◌∷◌, length, drop, ℤ}
use Rattle.dstree.specs.Measures.{most_samples, most_traces}
use Rattle.dstree.specs.Node.{Figure, by_sum, by_scatter, Test, Kind, leaf, inner, Node, Tree, node_at}
use Rattle.dstree.specs.Formed.{Shape}
use Rattle.tables.specs.Layout.{kind_place, first_place, right_place, record_places}
use Rattle.tables.specs.Tables.{record_of}
use Rattle.tables.specs.View.{small_at, segments_in, test_in}
use Rattle.tables.specs.Walk.{Linked}
use Rattle.insertion_memory.specs.Memory.{TreeTables}

-- what an inner node's kind field holds
unfoldable pub kind_number : Figure → ℕ
kind_number by_sum = 1
kind_number by_scatter = 2

-- a record has this kind
pub data Means (links : List ℕ) (r : List ℤ) : Kind → Type 0 where
  m_leaf : {x : ℕ} {l : List ℕ} → small_at r kind_place ≡ 0 → small_at r first_place ≡ x → Linked links (x ∷ l) → Means links r (leaf (x ∷ l))
  m_inner : {test : Test} {left right : ℕ} → small_at r kind_place ≡ kind_number test.figure → test_in r test.figure ≡ test
      → small_at r first_place ≡ left → small_at r right_place ≡ right → Means links r (inner test left right)

-- a record reads as a node
pub record ReadsAs (links : List ℕ) (r : List ℤ) (a : Node) : Type 0 where
  pub size : length r ≡ record_places
  pub segments : segments_in r ≡ a.segments
  pub kind : Means links r a.kind

-- n samples a trace, a capacity of c, and tables that are long enough for it
pub record Space (n c : ℕ) (nodes : List ℤ) (links : List ℕ) : Type 0 where
  pub wide : 1 ≤ n
  pub narrow : n ≤ most_samples
  pub small : c ≤ most_traces
  pub nodes_room : (2 * c - 1) * record_places ≤ length nodes
  pub links_room : c ≤ length links

-- h stands for a tree over k traces; behind what c traces need it is as the tables `nodes` and `links` are
pub record Represents (n c : ℕ) (nodes : List ℤ) (links : List ℕ) (k : ℕ) (h : TreeTables) (tree : Tree) : Type 0 where
  pub few : k ≤ c
  pub count : h.count ≡ length tree
  pub reads : (j : ℕ) → j < length tree → ReadsAs h.links (record_of h.nodes j) (node_at tree j)
  pub shape : Shape n k tree
  pub nodes_size : length h.nodes ≡ length nodes
  pub nodes_behind : drop ((2 * c - 1) * record_places) h.nodes ≡ drop ((2 * c - 1) * record_places) nodes
  pub links_size : length h.links ≡ length links
  pub links_behind : drop c h.links ≡ drop c links
