-- `search::visiting::visit_first` meets its contract: `SearchState` is the invariant, and the leaves to come are the measure (`Turns`).
use mathlib.Core.Path.{◌≡◌}
use lib.ListN.{length}
use Rattle.segment.specs.Stored.{samples_of}
use Rattle.tables.specs.Tables.{node_count}
use Rattle.tables.specs.View.{shape_in}
use Rattle.leaf_order.specs.Waits.{remaining}
use Rattle.search.specs.Lent.{stored_tables}
use Rattle.search.proofs.Turns.{SearchState}
use Rattle.search.proofs.visiting.visit_first.Given as goal

abbrev pub invariant-loop-leaf : goal.invariant-loop-leaf
invariant-loop-leaf l =
    let t = stored_tables l.stored in
    SearchState l.k l.most t (samples_of l.query.trace.now) (shape_in l.stored.nodes.now (node_count t)) l.initial.trail l.initial.list l.heap.keys.now l.trail
    l.list l.heap.len l.out l.traces l.listed
    × (length l.heap.keys.now ≡ node_count t)
    × (l.heap.keys.ghost_name ≡ l.initial.heap.keys.ghost_name)

abbrev pub decreases-loop-leaf : goal.decreases-loop-leaf
decreases-loop-leaf l =
    let t = stored_tables l.stored in
    length (remaining (shape_in l.stored.nodes.now (node_count t)) (samples_of l.query.trace.now) l.heap.len l.heap.keys.now)
