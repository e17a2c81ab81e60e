-- `batch_search::searching::search_queries` meets its contract: the first queries have read what the steps say (`Sweeps`).
use mathlib.Core.Path.{◌≡◌}
use lib.ListN.{length}
use Rattle.tables.specs.Tables.{node_count}
use Rattle.search.specs.Lent.{stored_tables}
use Rattle.batch_search.proofs.Sweeps.{Sweeping}
use Rattle.batch_search.proofs.searching.search_queries.Given as goal

abbrev pub invariant-loop-i : goal.invariant-loop-i
invariant-loop-i l =
    let t = stored_tables l.stored in
    Sweeping t l.queries l.many l.initial.bests l.initial.marks l.bests l.marks l.i l.leaves × (length l.work ≡ node_count t)
