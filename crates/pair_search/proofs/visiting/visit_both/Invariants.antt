-- `pair_search::visiting::visit_both` meets its contract: a turn keeps the invariant of both libraries (`BothTurns`).
use Rattle.segment.specs.Stored.{samples_of}
use Rattle.heap.specs.Lent.{SameRoom}
use Rattle.search.specs.Lent.{stored_tables}
use Rattle.pair_search.specs.Stepping.{slices}
use Rattle.pair_search.proofs.BothTurns.{BothState, to_read}
use Rattle.pair_search.proofs.visiting.visit_both.Given as goal

abbrev pub invariant-loop-next : goal.invariant-loop-next
invariant-loop-next l =
    let i = l.initial in
    BothState (stored_tables l.stored)
    (stored_tables l.bench_stored) (samples_of l.query.trace.now)
    (slices i.heap i.trail i.list) (slices l.heap l.trail l.list)
    (slices i.bench_heap i.bench_trail i.bench_list) (slices l.bench_heap l.bench_trail l.bench_list)
    l.factory l.bench
    × SameRoom i.heap l.heap
    × SameRoom i.bench_heap l.bench_heap

abbrev pub decreases-loop-next : goal.decreases-loop-next
decreases-loop-next l =
    to_read (stored_tables l.stored)
    (stored_tables l.bench_stored) (samples_of l.query.trace.now)
    (slices l.heap l.trail l.list) (slices l.bench_heap l.bench_trail l.bench_list) l.factory l.bench
