-- `leaf_figures::lists::list_leaf` meets its contract: what is listed and the numbers that are still to come make the leaf's numbers.
use mathlib.Core.Path.{◌≡◌}
use mathlib.Core.List.{◌++◌}
use Prim.Native.Nat.{◌-◌, ◌≤◌}
use lib.ListN.{length, take}
use Rattle.tables.specs.Walk.{numbers_of}
use Rattle.tables.proofs.Listed.{met_from}
use Rattle.leaf_figures.proofs.lists.list_leaf.Given as goal

abbrev pub invariant-loop-t : goal.invariant-loop-t
invariant-loop-t l = (l.t ≤ l.k) × (l.count ≤ l.t) × (length l.list ≡ 4096) × (take l.count l.list ++ met_from l.links l.k l.t ≡ numbers_of l.links l.k l.head)

abbrev pub decreases-loop-t : goal.decreases-loop-t
decreases-loop-t l = l.k - l.t
