-- `pair_search::sides::ask` meets its contract: what `next_leaf` hands out is ahead.
use lib.ListN.{length}
use Rattle.segment.specs.Stored.{samples_of}
use Rattle.tables.specs.View.{shape_in}
use Rattle.pair_search.proofs.Asking.{asked}
use Rattle.pair_search.proofs.sides.ask.Goals as goal

pub returns-clause-asked : goal.returns-clause-asked
returns-clause-asked c =
    let a = c.args in
    let next = c.next_leaf-ahead in
    asked (shape_in a.nodes.now (length a.heap.now.keys.now)) (samples_of a.query.now.trace.now) a.limit a.side a.heap.now next.new.heap next.result
    next.ensures.handed
