-- The key of a node: bound × 8,192 + number, so that keys are in the order "by bound, then by number". The bound of a child is known on the
-- way down: the greater of its own and its parent's.
use Rattle.std.specs.Prelude.{ℕ, ◌+◌, ◌*◌, ◌/◌, ◌%◌, ◌^◌, max, List}
use Rattle.heap.specs.Keys.{insert_key}
use Rattle.dstree.specs.Measures.{Trace}
use Rattle.dstree.specs.Node.{Tree, node_at}
use Rattle.dstree.specs.Matching.{own_bound, bound, LeafBound}

-- Ours: no tree has more than so many nodes, so that a key holds a number beside a bound
abbrev pub key_base : ℕ
key_base = 8192

-- a key, and the bound and the number that it holds
abbrev pub key_of : ℕ → ℕ → ℕ
key_of bound number = bound * key_base + number

abbrev pub key_bound : ℕ → ℕ
key_bound key = key / key_base

abbrev pub key_number : ℕ → ℕ
key_number key = key % key_base

-- every bound that a key of 64 bits holds is below this
abbrev pub bounds_below : ℕ
bounds_below = 2 ^ 64 / key_base

-- the leaf that a key is of
abbrev pub key_leaf : ℕ → LeafBound
key_leaf key = record { number = key_number key; bound = key_bound key }

module _ (tree : Tree) (query : Trace) where
  abbrev pub node_key : ℕ → ℕ
  node_key number = key_of (bound tree query number) number

  -- the same, of a node whose parent has the bound `above`
  abbrev pub child_key : ℕ → ℕ → ℕ
  child_key above number = key_of (max (own_bound query (node_at tree number)) above) number

  -- node 0 has no parent
  abbrev pub first_key : ℕ
  first_key = child_key 0 0

  -- the keys that wait once an inner node's key is taken: its children's in its stead
  abbrev pub in_stead : ℕ → ℕ → ℕ → List ℕ → List ℕ
  in_stead key left right waiting = insert_key (child_key (key_bound key) left) (insert_key (child_key (key_bound key) right) waiting)
