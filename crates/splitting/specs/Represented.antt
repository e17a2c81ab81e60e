-- Nodes and links that stand for a tree, with room for what splits make of it. What they stand for, no equation of a call's names: a call
-- keeps it because the steps on nodes and links stand for the steps on the tree.
use Rattle.std.specs.Prelude.{ℕ, ◌*◌, ◌≤◌, List, ℤ, length}
use Rattle.dstree.specs.Node.{Tree}
use Rattle.insertion_memory.specs.Memory.{tree_tables}
use Rattle.insertion_memory.specs.Represents.{Space, Represents}

-- nodes and links of `count` nodes stand for a tree over k traces of n samples, all of them stored, with room for a capacity of traces
pub record Represented (nodes : List ℤ) (links : List ℕ) (samples : List ℤ) (n k count : ℕ) : Type 0 where
  pub capacity : ℕ
  pub tree : Tree
  pub space : Space n capacity nodes links
  pub represents : Represents n capacity nodes links k (tree_tables nodes links count) tree
  pub samples_room : k * n ≤ length samples
