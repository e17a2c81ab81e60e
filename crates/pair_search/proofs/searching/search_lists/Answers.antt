-- `pair_search::searching::search_lists` meets its contract: the loop's, over the first places of each work (`Lending`).
use mathlib.Core.Path.{sym, ◌∙◌}
use native.Mathlib.Omega.{arith}
use lib.ListN.{length}
use lib.Seq.{length-take-le}
use Rattle.segment.specs.Stored.{samples_of}
use Rattle.segment.proofs.Stored.{samples_length}
use Rattle.search.specs.Lent.{stored_tables}
use Rattle.pair_search.proofs.Taken.{length_few}
use Rattle.pair_search.proofs.Lending.{count_fits, lent_long, behind_part}
use Rattle.pair_search.proofs.searching.search_lists.Goals as goal

pub of-summed-requires : goal.of-summed-requires
of-summed-requires c =
    let few = length_few _ (samples_of c.args.query.now) (length c.args.trail.now) c.requires.side_ready.0 in
    omega (arith, few, samples_length c.args.query.now)

-- ---- a place of search work for each node

pub slice_bounds-visit_both-end : goal.slice_bounds-visit_both-end
slice_bounds-visit_both-end c =
    let a = c.args in
    let ours = stored_tables a.stored in
    let theirs = stored_tables a.bench_stored in
    let query = samples_of a.query.now in
    let r = c.requires in
    count_fits ours query (length a.trail.now) r.side_ready.0 a.work.now r.side_ready.1 c.wide-count.result (c.wide-count.ensures ∙ c.field.ensures)

pub slice_bounds-visit_both-end-2 : goal.slice_bounds-visit_both-end-2
slice_bounds-visit_both-end-2 c =
    let a = c.args in
    let ours = stored_tables a.stored in
    let theirs = stored_tables a.bench_stored in
    let query = samples_of a.query.now in
    let r = c.requires in
    sym (length-take-le c.wide-count.result a.work.now
    (count_fits ours query (length a.trail.now) r.side_ready.0 a.work.now r.side_ready.1 c.wide-count.result (c.wide-count.ensures ∙ c.field.ensures)))

pub slice_bounds-visit_both-end-3 : goal.slice_bounds-visit_both-end-3
slice_bounds-visit_both-end-3 c =
    let a = c.args in
    let ours = stored_tables a.stored in
    let theirs = stored_tables a.bench_stored in
    let query = samples_of a.query.now in
    let r = c.requires in
    count_fits theirs query (length a.bench_trail.now) r.bench.0 a.bench_work.now r.bench.1 c.wide-bench_count.result (c.wide-bench_count.ensures ∙ c.field-2.ensures)

pub slice_bounds-visit_both-end-4 : goal.slice_bounds-visit_both-end-4
slice_bounds-visit_both-end-4 c =
    let a = c.args in
    let ours = stored_tables a.stored in
    let theirs = stored_tables a.bench_stored in
    let query = samples_of a.query.now in
    let r = c.requires in
    sym (length-take-le c.wide-bench_count.result a.bench_work.now
    (count_fits theirs query (length a.bench_trail.now) r.bench.0 a.bench_work.now r.bench.1 c.wide-bench_count.result (c.wide-bench_count.ensures ∙ c.field-2.ensures)))

pub visit_both-requires : goal.visit_both-requires
visit_both-requires c =
    let a = c.args in
    let ours = stored_tables a.stored in
    let theirs = stored_tables a.bench_stored in
    let query = samples_of a.query.now in
    let r = c.requires in (
      record {
        ready = rw c.of-summed.ensures r.side_ready.0;
        work_long = lent_long ours query (length a.trail.now) r.side_ready.0 a.work.now r.side_ready.1 c.wide-count.result (c.wide-count.ensures ∙ c.field.ensures);
        list_long = r.side_ready.2;
      },
      record {
        ready = rw c.of-summed.ensures r.bench.0;
        work_long = lent_long theirs query (length a.bench_trail.now) r.bench.0 a.bench_work.now r.bench.1 c.wide-bench_count.result (c.wide-bench_count.ensures ∙ c.field-2.ensures);
        list_long = r.bench.2;
      },
    )

-- ---- what the loop leaves

pub returns : goal.returns
returns c =
    let a = c.args in
    let ours = stored_tables a.stored in
    let theirs = stored_tables a.bench_stored in
    let query = samples_of a.query.now in
    let r = c.requires in
    let v = c.visit_both in
    record {
      both_visited = record { found = rw c.of-summed.ensures at v.ensures.found; factory = v.ensures.factory; bench = v.ensures.bench };
      behind = behind_part ours query (length a.trail.now) r.side_ready.0 a.work.now r.side_ready.1 c.wide-count.result (c.wide-count.ensures ∙ c.field.ensures) v.new.work
          v.auto.work;
      bench_behind = behind_part theirs query (length a.bench_trail.now) r.bench.0 a.bench_work.now r.bench.1 c.wide-bench_count.result
          (c.wide-bench_count.ensures ∙ c.field-2.ensures) v.new.bench_work v.auto.bench_work;
    }
