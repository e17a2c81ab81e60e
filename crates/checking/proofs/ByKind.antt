-- The traces below a node that may be walked, by its kind field: a leaf's list, or those below an inner node's two children.
use mathlib.Core.Path.{◌≡◌}
use mathlib.Core.List.{List, ◌++◌}
use Prim.Native.Nat.{ℕ, ◌≤◌, ◌<◌}
use lib.IntN.{ℤ}
use Rattle.dstree.specs.Checking.{traces_below}
use Rattle.dstree.proofs.TracesBelow.{below_of_leaf, below_of_inner}
use Rattle.tables.specs.Layout.{kind_place, first_place, right_place}
use Rattle.tables.specs.Tables.{record_of}
use Rattle.tables.specs.View.{small_at}
use Rattle.tables.specs.Walk.{numbers_of}
use Rattle.tables.specs.Nodes.{tree_by, Walks}
use Rattle.tables.proofs.ByKind.{in_tree, leaf_is, inner_is}

module _ {nodes : List ℤ} {links : List ℕ} {k m : ℕ} (w : Walks nodes links k m) (j : ℕ) (h : j < m) where
  pub leaf_below : small_at (record_of nodes j) kind_place ≡ 0
      → traces_below (tree_by nodes links k m) j ≡ numbers_of links k (small_at (record_of nodes j) first_place)
  leaf_below e = below_of_leaf w.shape (in_tree w j h) (leaf_is w j h e)

  pub inner_below : 1 ≤ small_at (record_of nodes j) kind_place
      → traces_below (tree_by nodes links k m) j ≡ traces_below (tree_by nodes links k m) (small_at (record_of nodes j) first_place)
      ++ traces_below (tree_by nodes links k m) (small_at (record_of nodes j) right_place)
  inner_below e = below_of_inner w.shape (in_tree w j h) (inner_is w j h e).is
