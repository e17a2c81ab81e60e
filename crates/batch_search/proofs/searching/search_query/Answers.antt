-- `batch_search::searching::search_query` meets its contract: that of `visit`, with the query's own sums.
use mathlib.Core.Path.{◌≡◌, ap, ◌∙◌}
use Prim.Native.Nat.{ℕ}
use native.Mathlib.Omega.{arith}
use lib.ListN.{length}
use Rattle.segment.specs.Stored.{samples_of}
use Rattle.segment.proofs.Stored.{samples_length}
use Rattle.dstree.specs.Matching.{leaves}
use Rattle.tables.specs.Tables.{measures_of}
use Rattle.tables.specs.View.{tree_in, trace_in}
use Rattle.search.specs.Lent.{stored_tables}
use Rattle.search.proofs.Facts.{length_fits}
use Rattle.batch_leaves.specs.LeavesRead.{query_at}
use Rattle.batch_leaves.proofs.Runs.{query_room, ready_for}
use Rattle.batch_search.proofs.searching.search_query.Goals as goal

pub trace_at-requires : goal.trace_at-requires
trace_at-requires c =
    let a = c.args in
    let t = stored_tables a.stored in
    let n_is : c.wide-n.result ≡ (measures_of t).n = c.wide-n.ensures ∙ c.field.ensures in
    query_room a.i a.many c.wide-n.result a.queries.now c.requires.query.0 (rw n_is c.requires.searchable.0.run_long)

pub of-summed-requires : goal.of-summed-requires
of-summed-requires c =
    let a = c.args in
    let t = stored_tables a.stored in
    let query = query_at t a.queries.now a.i in
    let query_is : samples_of c.trace_at.result.now ≡ query =
    c.trace_at.ensures ∙ ap (λ (n : ℕ). trace_in a.queries.now n a.i) (c.wide-n.ensures ∙ c.field.ensures) in
    let ready = ready_for t a.queries.now a.many c.requires.searchable.0 a.i c.requires.query.0 in
    omega (arith, length_fits t query (length (leaves (tree_in t))) ready, ap length query_is, samples_length c.trace_at.result.now)

pub visit-requires : goal.visit-requires
visit-requires c =
    let a = c.args in
    let t = stored_tables a.stored in
    let query_is : samples_of c.trace_at.result.now ≡ query_at t a.queries.now a.i =
    c.trace_at.ensures ∙ ap (λ (n : ℕ). trace_in a.queries.now n a.i) (c.wide-n.ensures ∙ c.field.ensures) in
    record {
      searchable = c.requires.searchable;
      query = (c.requires.query.0, ap samples_of c.of-summed.ensures ∙ query_is, c.requires.query.1);
    }
