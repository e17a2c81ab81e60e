-- `batch_search::searching::search_marks` meets its contract: that of the loop over the queries, and the needed search work is set to zero
-- behind it.
use mathlib.Core.Path.{◌≡◌, sym, ap, ◌∙◌, subst}
use mathlib.Core.List.{List, ◌++◌}
use Prim.Native.Nat.{ℕ, ◌≤◌}
use native.Mathlib.Omega.{arith}
use lib.IntN.{ℤ}
use lib.ListN.{length, take, drop}
use lib.Seq.{length_front, length-take-le, drop_at}
use Rattle.dstree.specs.Measures.{measures, records_needed, work_needed}
use Rattle.dstree.specs.Matching.{leaves}
use Rattle.tables.specs.Tables.{Tables, measures_of, node_count, filled}
use Rattle.tables.specs.View.{tree_in}
use Rattle.search.specs.Lent.{stored_tables}
use Rattle.search.specs.Searched.{Ready}
use Rattle.search.proofs.Facts.{capacity_fits, nodes_needed}
use Rattle.search.proofs.Cleared.{as_many, zeroed}
use Rattle.batch_leaves.specs.LeavesRead.{Searchable, query_at}
use Rattle.batch_leaves.proofs.Runs.{ready_for}
use Rattle.batch_search.proofs.searching.search_marks.Goals as goal

-- a query that the tables may be searched for
module _ {t : Tables} {run : List ℤ} {many : ℕ} (s : Searchable t run many) where
  ready : Ready t (query_at t run 0) (length (leaves (tree_in t)))
  ready = ready_for t run many s 0 (omega (arith, s.some_query))

  -- ---- a place of search work for each node: the first places are lent
  module _ (work : List ℕ) (room : work_needed (measures_of t) ≤ length work) {count : ℕ} (count_is : count ≡ node_count t) where
    count_fits : count ≤ length work
    count_fits = omega (arith, count_is, nodes_needed t _ (length (leaves (tree_in t))) ready, room)

    -- the places behind them are as they were
    behind : (part : List ℕ) → length part ≡ length (take count work) → drop (node_count t) (part ++ drop count work) ≡ drop (node_count t) work
    behind part e =
        let long : length part ≡ count = e ∙ length-take-le count work count_fits in
        subst (λ (n : ℕ). drop n (part ++ drop count work) ≡ drop n work) count_is (drop_at part (drop count work) count long)

-- the search work that a library of this capacity needs
needed_is : (t : Tables) {capacity needed : ℕ} → capacity ≡ (measures_of t).capacity
    → ((n i : ℕ) → needed ≡ records_needed (measures n capacity i)) → needed ≡ work_needed (measures_of t)
needed_is t capacity_is ensures =
    let m = measures_of t in
    ensures m.n m.leaf_size ∙ (ap (λ (i : ℕ). records_needed (measures m.n i m.leaf_size)) capacity_is ∙ as_many m)

pub slice_bounds-search_queries-end : goal.slice_bounds-search_queries-end
slice_bounds-search_queries-end c = count_fits c.requires.0 c.args.work.now c.requires.2 (c.wide-count.ensures ∙ c.field.ensures)

pub slice_bounds-search_queries-end-2 : goal.slice_bounds-search_queries-end-2
slice_bounds-search_queries-end-2 c =
    sym (length-take-le c.wide-count.result c.args.work.now (count_fits c.requires.0 c.args.work.now c.requires.2 (c.wide-count.ensures ∙ c.field.ensures)))

pub search_queries-leaves-requires : goal.search_queries-leaves-requires
search_queries-leaves-requires c =
    let count_is = c.wide-count.ensures ∙ c.field.ensures in (
      c.requires.0,
      c.requires.1,
      length-take-le c.wide-count.result c.args.work.now (count_fits c.requires.0 c.args.work.now c.requires.2 count_is) ∙ count_is,
    )

pub records_needed-needed-requires : goal.records_needed-needed-requires
records_needed-needed-requires c =
    omega (arith, c.wider-capacity.ensures ∙ c.field-2.ensures, capacity_fits _ _ _ (ready c.requires.0))

pub fill_first-requires : goal.fill_first-requires
fill_first-requires c =
    let a = c.args in
    let t = stored_tables a.stored in
    let needed = needed_is t (c.wider-capacity.ensures ∙ c.field-2.ensures) c.records_needed-needed.ensures in
    let q = c.search_queries-leaves in
    let h : c.records_needed-needed.result ≤ length (q.new.work ++ drop c.wide-count.result a.work.now) =
    omega (arith, needed, c.requires.2, length_front a.work.now q.new.work c.wide-count.result q.auto.work) in
    h

pub returns : goal.returns
returns c =
    let a = c.args in
    let q = c.search_queries-leaves in
    let t = stored_tables a.stored in
    let whole = q.new.work ++ drop c.wide-count.result a.work.now in
    let needed = needed_is t (c.wider-capacity.ensures ∙ c.field-2.ensures) c.records_needed-needed.ensures in
    record {
      bests_and_marks = q.ensures.bests_and_marks;
      counted = q.ensures.counted;
      zero = zeroed t _ (length (leaves (tree_in t))) (ready c.requires.0) a.work.now whole c.fill_first.new.table
          (behind c.requires.0 a.work.now c.requires.2 (c.wide-count.ensures ∙ c.field.ensures) q.new.work q.auto.work)
          (c.fill_first.ensures ∙ ap (λ (i : ℕ). filled i 0 whole) needed);
    }
