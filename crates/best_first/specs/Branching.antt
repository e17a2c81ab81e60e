-- What the order of reading asks of a tree: children are nodes, numbered above their parent, and every node but 0 is a child once.
use Rattle.std.specs.Prelude.{◌≤◌, ◌<◌, length}
use Rattle.dstree.specs.Node.{Tree}
use Rattle.dstree.specs.Formed.{Children}
use Rattle.best_first.specs.NodeKeys.{key_base}

pub record Branching (tree : Tree) : Type 0 where
  pub some_node : 0 < length tree
  pub few : length tree ≤ key_base
  pub children : Children tree
