-- Keys of nodes that wait, and the leaves that they stand for: those below the keys' nodes, in order.
use Rattle.std.specs.Prelude.{ℕ, zero, suc, ◌+◌, ◌<◌, ◌≡◌, List, [], ◌∷◌, ◌++◌, length}
use Rattle.heap.specs.Keys.{pour}
use Rattle.dstree.specs.Measures.{Trace}
use Rattle.dstree.specs.Node.{Kind, leaf, inner, Tree, node_at}
use Rattle.best_first.specs.NodeKeys.{key_number, node_key}

-- ---- what is below a node, as a tree of its own

pub data Subtree : Type 0 where
  tip : ℕ → Subtree
  fork : Subtree → Subtree → Subtree

-- the keys of its leaves
unfoldable pub leaf_keys : (ℕ → ℕ) → Subtree → List ℕ
leaf_keys key (tip i) = key i ∷ []
leaf_keys key (fork a b) = leaf_keys key a ++ leaf_keys key b

-- how many nodes it has
unfoldable pub weight : Subtree → ℕ
weight (tip i) = 1
weight (fork a b) = suc (weight a + weight b)

abbrev pub subtree_by : Kind → ℕ → (ℕ → Subtree) → Subtree
subtree_by (leaf numbers) i from = tip i
subtree_by (inner test left right) i from = fork (from left) (from right)

-- at most `fuel` steps down
unfoldable pub subtree_from : Tree → ℕ → ℕ → Subtree
subtree_from tree zero i = tip i
subtree_from tree (suc fuel) i = subtree_by (node_at tree i).kind i (subtree_from tree fuel)

-- numbers rise on the way down, so that there are steps enough
abbrev pub subtree : Tree → ℕ → Subtree
subtree tree i = subtree_from tree (length tree) i

abbrev pub keys_below : Tree → (ℕ → ℕ) → ℕ → List ℕ
keys_below tree key i = leaf_keys key (subtree tree i)

abbrev pub nodes_below : Tree → ℕ → ℕ
nodes_below tree i = weight (subtree tree i)

-- ---- keys that wait

-- the keys of the leaves still to come, in order
abbrev pub to_come : Tree → Trace → List ℕ → List ℕ
to_come tree query [] = []
to_come tree query (x ∷ xs) = pour (keys_below tree (node_key tree query) (key_number x)) (to_come tree query xs)

-- how many nodes are still to be taken
abbrev pub nodes_waiting : Tree → List ℕ → ℕ
nodes_waiting tree [] = 0
nodes_waiting tree (x ∷ xs) = nodes_below tree (key_number x) + nodes_waiting tree xs

-- each is the key of a node
abbrev pub Keyed : Tree → Trace → List ℕ → Type 0
Keyed tree query [] = Unit {0}
Keyed tree query (x ∷ xs) = (key_number x < length tree) × (x ≡ node_key tree query (key_number x)) × Keyed tree query xs
