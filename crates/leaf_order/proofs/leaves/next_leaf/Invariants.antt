-- `leaf_order::leaves::next_leaf` meets its contract: the keys that wait stand for the same leaves in every turn, and the nodes below them
-- are the measure.
use mathlib.Core.Path.{◌≡◌}
use lib.ListN.{length}
use Rattle.segment.specs.Stored.{samples_of}
use Rattle.tables.specs.View.{shape_in}
use Rattle.best_first.specs.Waiting.{nodes_waiting}
use Rattle.leaf_order.specs.Waits.{keys_in, Waits, remaining}
use Rattle.leaf_order.proofs.leaves.next_leaf.Given as goal

abbrev pub invariant-loop-x : goal.invariant-loop-x
invariant-loop-x l =
    let work = l.initial.heap.keys.now in
    let tree = shape_in l.nodes (length work) in
    let q = samples_of l.query.trace.now in
    Waits tree q l.heap.len l.heap.keys.now
    × (remaining tree q l.heap.len l.heap.keys.now ≡ remaining tree q l.initial.heap.len work)
    × (length l.heap.keys.now ≡ length work)
    × (l.heap.keys.ghost_name ≡ l.initial.heap.keys.ghost_name)

abbrev pub decreases-loop-x : goal.decreases-loop-x
decreases-loop-x l = nodes_waiting (shape_in l.nodes (length l.initial.heap.keys.now)) (keys_in l.heap.len l.heap.keys.now)
