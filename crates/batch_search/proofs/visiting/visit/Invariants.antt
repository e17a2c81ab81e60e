-- `batch_search::visiting::visit` meets its contract: `BatchState` is the invariant, and the leaves to come are the measure (`Visits`).
use mathlib.Core.Path.{◌≡◌}
use lib.ListN.{length}
use Rattle.tables.specs.Tables.{node_count}
use Rattle.tables.specs.View.{shape_in}
use Rattle.leaf_order.specs.Waits.{remaining}
use Rattle.search.specs.Lent.{stored_tables}
use Rattle.batch_leaves.specs.LeavesRead.{query_at}
use Rattle.batch_search.proofs.Visits.{BatchState}
use Rattle.batch_search.proofs.visiting.visit.Given as goal

abbrev pub invariant-loop-leaf : goal.invariant-loop-leaf
invariant-loop-leaf l =
    let t = stored_tables l.stored in
    BatchState t l.queries l.many l.i (shape_in l.stored.nodes.now (node_count t)) l.initial.bests l.initial.marks l.leaves l.heap.keys.now l.bests l.marks
    l.heap.len l.read
    × (length l.heap.keys.now ≡ node_count t)
    × (l.heap.keys.ghost_name ≡ l.initial.heap.keys.ghost_name)

abbrev pub decreases-loop-leaf : goal.decreases-loop-leaf
decreases-loop-leaf l =
    let t = stored_tables l.stored in
    length (remaining (shape_in l.stored.nodes.now (node_count t)) (query_at t l.queries l.i) l.heap.len l.heap.keys.now)
