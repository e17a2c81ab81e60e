-- `batch_search::searching::search_queries` meets its contract: the first queries have read what the steps say (`Sweeps`).
use mathlib.Core.Path.{◌∙◌}
use native.Mathlib.Omega.{arith}
use Rattle.search.specs.Lent.{stored_tables}
use Rattle.batch_search.proofs.Sweeps.{sweeping_start, sweeping_next, sweeping_end}
use Rattle.batch_search.proofs.searching.search_queries.Goals as goal

pub loop-i-init : goal.loop-i-init
loop-i-init c =
    let a = c.args in
    (sweeping_start (stored_tables a.stored) a.queries.now a.many a.bests.now a.marks.now c.requires.1, c.requires.2)

pub search_query-leaves-requires : goal.search_query-leaves-requires
search_query-leaves-requires c = record { searchable = (c.requires.0, c.loop-i.invariant.0.room); query = (c.loop-i-test.true, c.loop-i.invariant.1) }

pub loop-i-preserved : goal.loop-i-preserved
loop-i-preserved c =
    let r = c.search_query-leaves in
    let a = c.args in (
      sweeping_next (stored_tables a.stored) a.queries.now a.many c.loop-i.invariant.0 c.loop-i-test.true
          r.new.bests r.new.marks r.result r.ensures.turns r.ensures.counted
          r.auto.bests r.auto.marks,
      r.auto.work ∙ c.loop-i.invariant.1,
    )

pub returns : goal.returns
returns c =
    let a = c.args in record {
      bests_and_marks = sweeping_end (stored_tables a.stored) a.queries.now a.many c.loop-i.invariant.0
          (omega (arith, c.loop-i-test.false));
      counted = c.loop-i.invariant.0.room.counted;
    }
