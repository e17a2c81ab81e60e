-- `pair_search::searching::search_both` meets its contract: what was found in each library, joined (`Joined`), with both works set to zero
-- behind the search (`Lending`).
use mathlib.Core.Path.{◌≡◌, sym}
use mathlib.Core.List.{List, [], ◌∷◌}
use Prim.Native.Nat.{ℕ, ◌≤◌}
use native.Mathlib.Omega.{arith}
use lib.ListN.{length}
use Rattle.segment.specs.Stored.{samples_of}
use Rattle.tables.specs.Tables.{Tables}
use Rattle.search.specs.Lent.{stored_tables}
use Rattle.pair_search.specs.Visiting.{SideVisited}
use Rattle.pair_search.specs.declared.sides.Side.{Side}
use Rattle.pair_search.proofs.Taken.{capacity_few, few_leaves}
use Rattle.pair_search.proofs.Lending.{all_zeroed}
use Rattle.pair_search.proofs.Joined.{joined}
use Rattle.pair_search.proofs.searching.search_both.Goals as goal

pub search_lists-both-requires : goal.search_lists-both-requires
search_lists-both-requires c =
    record {
      side_ready = (c.requires.side_ready.0, c.requires.side_ready.1, omega arith);
      bench = (c.requires.bench.0, c.requires.bench.1, omega arith);
    }

-- ---- search work

pub clear_work-requires : goal.clear_work-requires
clear_work-requires c =
    let a = c.args in
    let ours = stored_tables a.stored in
    let theirs = stored_tables a.bench_stored in
    let query = samples_of a.query.now in
    let r = c.requires in
    let q = c.search_lists-both in
    let v = q.ensures.both_visited in
    (capacity_few ours query (length a.trail.now) r.side_ready.0, omega (arith, r.side_ready.1, q.auto.work))

pub clear_work-requires-2 : goal.clear_work-requires-2
clear_work-requires-2 c =
    let a = c.args in
    let ours = stored_tables a.stored in
    let theirs = stored_tables a.bench_stored in
    let query = samples_of a.query.now in
    let r = c.requires in
    let q = c.search_lists-both in
    let v = q.ensures.both_visited in
    (capacity_few theirs query (length a.bench_trail.now) r.bench.0, omega (arith, r.bench.1, q.auto.bench_work))

-- ---- the winner

pub slice_bounds-winner-end : goal.slice_bounds-winner-end
slice_bounds-winner-end c = sym c.search_lists-both.auto.list

pub slice_bounds-winner-end-2 : goal.slice_bounds-winner-end-2
slice_bounds-winner-end-2 c = sym c.search_lists-both.auto.bench_list

-- where nothing was found the list has its zeros
none_kept : {t : Tables} {trail trail' list' : List ℕ} {side : Side} → SideVisited t trail trail' (0 ∷ 0 ∷ []) list' side → side.listed ≡ 0
    → list' ≡ 0 ∷ 0 ∷ []
none_kept v e = rw e at v.list_rest

pub winner-won-requires : goal.winner-won-requires
winner-won-requires c =
    let q = c.search_lists-both in
    let v = q.ensures.both_visited in
    record {
      listed_bound = (v.factory.few, omega (arith, q.auto.list), none_kept v.factory);
      bench = (v.bench.few, omega (arith, q.auto.bench_list));
    }

pub overflow_add-result : goal.overflow_add-result
overflow_add-result c =
    let a = c.args in
    let ours = stored_tables a.stored in
    let theirs = stored_tables a.bench_stored in
    let query = samples_of a.query.now in
    let r = c.requires in
    let q = c.search_lists-both in
    let v = q.ensures.both_visited in
    record {
      fits = omega (
        arith,
        v.factory.few_traces,
        v.bench.few_traces,
        v.factory.no_more,
        v.bench.no_more,
        few_leaves ours query (length a.trail.now) r.side_ready.0,
        few_leaves theirs query (length a.bench_trail.now) r.bench.0,
      );
    }

pub returns : goal.returns
returns c =
    let a = c.args in
    let ours = stored_tables a.stored in
    let theirs = stored_tables a.bench_stored in
    let query = samples_of a.query.now in
    let r = c.requires in
    let q = c.search_lists-both in
    let v = q.ensures.both_visited in
    let within : q.result.factory.out ≤ length a.trail.now = omega (arith, v.factory.no_more, r.side_ready.0.trail_long) in
    let bench_within : q.result.bench.out ≤ length a.bench_trail.now = omega (arith, v.bench.no_more, r.bench.0.trail_long) in
    record {
      found = joined ours theirs query _ q.new.trail _ q.new.list _ q.new.bench_trail _ q.new.bench_list q.result.factory q.result.bench v (omega (arith, within, q.auto.trail))
          (omega (arith, bench_within, q.auto.bench_trail)) c.winner-won.result c.winner-won.ensures;
      factory = record {
        within = within;
        trail_rest = v.factory.trail_rest;
        work_zero = all_zeroed ours query (length a.trail.now) r.side_ready.0 a.work.now q.new.work c.clear_work.new.work q.ensures.behind
            c.clear_work.ensures;
      };
      bench = record {
        within = bench_within;
        trail_rest = v.bench.trail_rest;
        work_zero = all_zeroed theirs query (length a.bench_trail.now) r.bench.0 a.bench_work.now q.new.bench_work c.clear_work-2.new.work
            q.ensures.bench_behind c.clear_work-2.ensures;
      };
    }
