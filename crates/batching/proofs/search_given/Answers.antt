-- `batching::search_given` meets its contract: the words stand for the run.
use mathlib.Core.Path.{sym, subst}
use Prim.Native.Nat.{◌≤◌}
use native.Mathlib.Omega.{arith}
use lib.ListN.{length}
use lib.Seq.{length-take-le}
use Rattle.dstree.specs.Measures.{Trace}
use Rattle.search.specs.Lent.{stored_tables}
use Rattle.batch_search.specs.Batched.{BatchSearched}
use Rattle.batching.proofs.Taken.{words_searchable, run_few}
use Rattle.batching.proofs.search_given.Goals as goal

pub words_of-requires : goal.words_of-requires
words_of-requires c =
    let a = c.args in
    let given = stored_tables a.stored in
    (run_few given a.queries.now a.many c.requires.0, c.requires.3)

pub slice_bounds-words-end : goal.slice_bounds-words-end
slice_bounds-words-end c =
    let a = c.args in
    let given = stored_tables a.stored in
    omega (arith, run_few given a.queries.now a.many c.requires.0, c.words_of.ensures.long)

pub slice_bounds-search_batch-end : goal.slice_bounds-search_batch-end
slice_bounds-search_batch-end c =
    let a = c.args in
    let given = stored_tables a.stored in
    let room : length a.queries.now ≤ length c.words_of.new.words = omega (arith, run_few given a.queries.now a.many c.requires.0, c.words_of.ensures.long) in
    sym (length-take-le (length a.queries.now) c.words_of.new.words room)

pub search_batch-requires : goal.search_batch-requires
search_batch-requires c =
    let a = c.args in
    let given = stored_tables a.stored in
    (words_searchable given a.queries.now a.many _ c.words_of.ensures.words_after c.requires.0, c.requires.1, c.requires.2)

pub returns : goal.returns
returns c =
    let a = c.args in
    let given = stored_tables a.stored in
    let r = c.search_batch.result in
    let left = c.search_batch.new in
    subst
    (λ (x : Trace). BatchSearched given x a.many a.work.now left.work a.trail.now left.trail r.bests
    r.leaves) c.words_of.ensures.words_after c.search_batch.ensures
