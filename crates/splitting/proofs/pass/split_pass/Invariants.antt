-- `splitting::pass::split_pass` meets its contract: at each turn the rest of the pass, with one fuel less for each node that was passed,
-- comes to the whole. Nodes and links stand for a tree at each turn (`Kept`), which has less than 2k nodes, so that there is fuel left, and
-- what is left to 2k falls.
use mathlib.Core.Path.{◌≡◌}
use Prim.Native.Nat.{◌*◌, ◌-◌, ◌≤◌}
use lib.ListN.{length}
use Rattle.tables.specs.Walk.{stored_in}
use Rattle.insertion_memory.specs.Memory.{tree_tables, split_on}
use Rattle.splitting.specs.Represented.{Represented}
use Rattle.splitting.proofs.pass.split_pass.Given as goal

abbrev pub invariant-loop-at : goal.invariant-loop-at
invariant-loop-at l =
    (l.from ≤ l.at)
    × Represented l.nodes l.links l.samples l.n l.k l.count
    × (split_on (2 * l.k - (l.at - l.from)) l.leaf_size (stored_in l.samples l.n l.k) (tree_tables l.nodes l.links l.count) l.at ≡ split_on (2 * l.k) l.leaf_size (stored_in l.samples l.n l.k)
    (tree_tables l.initial.nodes l.initial.links l.many) l.from)
    × (length l.nodes ≡ length l.initial.nodes)
    × (length l.links ≡ length l.initial.links)

abbrev pub decreases-loop-at : goal.decreases-loop-at
decreases-loop-at l = 2 * l.k - l.at
