-- `batch_leaves::read_once` meets its contract: a leaf with a mark is passed over, another is read for all queries (`Kept`), and is
-- then one more of those with a mark (`Marks`).
use mathlib.Core.Path.{◌≡◌, ◌∙◌, ap}
use mathlib.Core.Bool.{true, false}
use mathlib.Core.List.{List, map}
use Prim.Native.Nat.{ℕ, ◌+◌, ◌<◌}
use native.Mathlib.Omega.{arith}
use lib.IntN.{ℤ}
use lib.ListN.{length, get_or, set}
use Rattle.dstree.specs.Matching.{leaves}
use Rattle.tables.specs.Layout.{kind_place, first_place}
use Rattle.tables.specs.Tables.{Tables, measures_of, trace_count, node_count, record_of}
use Rattle.tables.specs.View.{small_at, tree_in}
use Rattle.tables.specs.Walk.{numbers_of}
use Rattle.reading.specs.Nearest.{near_of}
use Rattle.reading.proofs.Meaning.{LeafInTables}
use Rattle.leaf_order.specs.Waits.{Walkable}
use Rattle.leaf_order.proofs.Records.{number_fits}
use Rattle.search.specs.Lent.{stored_tables}
use Rattle.search.specs.Searched.{Ready}
use Rattle.search.proofs.Facts.{walkable, leaf_at}
use Rattle.search.proofs.Turns.{stored_as}
use Rattle.batch_leaves.specs.LeavesRead.{Searchable, query_at, is_marked, AllRead}
use Rattle.batch_leaves.proofs.Runs.{ready_for, nodes_few}
use Rattle.batch_leaves.proofs.Marks.{marked_yes, marked_no, marked_most, marked_more, once_more}
use Rattle.batch_leaves.proofs.Kept.{once_old, once_new}
use Rattle.batch_leaves.proofs.read_once.Goals as goal

-- leaf j
module _ {t : Tables} {run : List ℤ} {many : ℕ} (s : Searchable t run many) where
  ready : Ready t (query_at t run 0) (length (leaves (tree_in t)))
  ready = ready_for t run many s 0 (omega (arith, s.some_query))

  walks : Walkable t.nodes (node_count t) (query_at t run 0)
  walks = walkable t (query_at t run 0) (length (leaves (tree_in t))) ready

  at_leaf : (j : ℕ) → j < node_count t → small_at (record_of t.nodes j) kind_place ≡ 0 → LeafInTables t j
  at_leaf j inside leaf = leaf_at t (query_at t run 0) (length (leaves (tree_in t))) ready j inside leaf

pub bounds-marks-j : goal.bounds-marks-j
bounds-marks-j c = omega (arith, c.requires.leaf.0, c.requires.searchable.1.marks_long)

pub returns-then-marks-j-ne0 : goal.returns-then-marks-j-ne0
returns-then-marks-j-ne0 c =
    let a = c.args in
    let s = c.requires.searchable in
    let leaf = c.requires.leaf in
    let t = stored_tables a.stored in
    let marked : is_marked a.marks.now a.j ≡ true = marked_yes a.marks.now a.j (λ e. omega (arith, c.if-marks-j-ne0.true, e)) in
    record {
      turns = λ read k. once_old t a.queries.now a.many a.j (at_leaf s.0 a.j leaf.0 leaf.1) k marked;
      counted = s.1.counted;
    }

pub node_small-first-requires : goal.node_small-first-requires
node_small-first-requires c =
    let w = walks c.requires.searchable.0 in
    let h = c.requires.leaf.0 in
    (w.record_room c.args.j h, number_fits c.args.stored.nodes.now _ _ w c.args.j h, omega arith)

pub read_for_all-requires : goal.read_for_all-requires
read_for_all-requires c =
    let a = c.args in
    let s = c.requires.searchable in
    let leaf = c.requires.leaf in
    let t = stored_tables a.stored in
    let n_is : c.wide-n.result ≡ (measures_of t).n = c.wide-n.ensures ∙ c.field.ensures in
    let count_is : c.wide-count.result ≡ trace_count t = c.wide-count.ensures ∙ c.field-2.ensures in
    record {
      stored = (
        stored_as t a.j (at_leaf s.0 a.j leaf.0 leaf.1) c.wide-n.result c.wide-count.result c.node_small-first.result n_is count_is c.node_small-first.ensures,
        rw n_is s.0.run_long,
        s.0.few,
        s.1.bests_long,
        omega (arith, s.1.counted.as_many, marked_most a.marks.now (node_count t), nodes_few t a.queries.now a.many s.0),
      );
      mark = (omega (arith, leaf.0, s.1.marks_long), s.1.counted.once a.j leaf.0);
    }

pub returns : goal.returns
returns c =
    let a = c.args in
    let s = c.requires.searchable in
    let leaf = c.requires.leaf in
    let t = stored_tables a.stored in
    let n_is : c.wide-n.result ≡ (measures_of t).n = c.wide-n.ensures ∙ c.field.ensures in
    let count_is : c.wide-count.result ≡ trace_count t = c.wide-count.ensures ∙ c.field-2.ensures in
    let bests = c.read_for_all.new.bests in
    let marks = c.read_for_all.new.marks in
    let room : a.j < length a.marks.now = omega (arith, leaf.0, s.1.marks_long) in
    let all : AllRead a.leaves a.many
    (λ i. map (near_of t.samples (measures_of t).n (query_at t a.queries.now i))
    (numbers_of t.links (trace_count t) (small_at (record_of t.nodes a.j) first_place))) a.bests.now bests =
    rw (← n_is, ← count_is, ← c.node_small-first.ensures) c.read_for_all.ensures.all_read in
    -- the leaf had no mark, or its mark would now be above 1
    let blank : get_or a.marks.now a.j 0 ≡ 0 = omega (arith, c.if-marks-j-ne0.false) in
    let unmarked : is_marked a.marks.now a.j ≡ false = marked_no a.marks.now a.j blank in
    let mark_is : marks ≡ set a.marks.now a.j 1 =
    c.read_for_all.ensures.marked ∙ ap (λ (m : ℕ). set a.marks.now a.j (m + 1)) blank in
    record {
      turns = rw mark_is (λ read k. once_new t a.queries.now a.many a.j (at_leaf s.0 a.j leaf.0 leaf.1) k bests all unmarked room
          c.read_for_all.result (omega (arith, c.read_for_all.ensures.more)));
      counted = rw mark_is (record {
        once = once_more a.marks.now (node_count t) a.j room s.1.counted.once;
        as_many = omega (
          arith,
          c.read_for_all.ensures.more,
          s.1.counted.as_many,
          marked_more a.marks.now (node_count t) a.j leaf.0 room unmarked,
        );
      });
    }
