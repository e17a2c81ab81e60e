-- `batch_search::visiting::visit` meets its contract: `BatchState` is the invariant, and the leaves to come are the measure (`Visits`).
use mathlib.Core.Path.{◌≡◌, refl, ◌∙◌, ap, subst}
use mathlib.Core.List.{List}
use Prim.Native.Nat.{ℕ, ◌<◌}
use native.Mathlib.Omega.{arith}
use lib.IntN.{ℤ}
use lib.ListN.{length}
use Rattle.segment.specs.Stored.{samples_of}
use Rattle.dstree.specs.Measures.{Trace}
use Rattle.dstree.specs.Matching.{leaves}
use Rattle.tables.specs.Tables.{Tables, node_count}
use Rattle.tables.specs.View.{tree_in, shape_in}
use Rattle.tables.proofs.Views.{shape_size}
use Rattle.leaf_order.specs.Waits.{Walkable, Begun}
use Rattle.std.specs.Prelude.{Option}
use Rattle.leaf_order.specs.declared.leaves.Leaf.{Leaf}
use Rattle.leaf_order.specs.Handed.{HandedLeaf, NoneWithin, Handed}
use Rattle.leaf_order.proofs.Records.{leaf_kind}
use Rattle.search.specs.Lent.{stored_tables}
use Rattle.search.specs.Searched.{Ready}
use Rattle.search.proofs.Facts.{walkable}
use Rattle.batch_leaves.specs.LeavesRead.{Searchable, query_at}
use Rattle.batch_leaves.proofs.Runs.{ready_for}
use Rattle.batch_search.proofs.Visits.{state_start, state_end, leaf_less, state_leaf}
use Rattle.batch_search.proofs.visiting.visit.Goals as goal

-- ---- what `next_leaf` answers, over the tree of all records, for the query, and with the limit as its record has it
module _ (nodes : List ℤ) {words query : Trace} (query_is : words ≡ query) {limit limit' : Option ℕ} {waiting left m : ℕ}
    {work left_work : List ℕ} (size : length work ≡ m) (is_limit : limit' ≡ limit) where
  none_left : NoneWithin (shape_in nodes (length work)) words limit' waiting left work left_work
      → NoneWithin (shape_in nodes m) query limit waiting left work left_work
  none_left h =
      subst (λ (d : Option ℕ). NoneWithin (shape_in nodes m) query d waiting left work left_work) is_limit
      (subst (λ (x : Trace). NoneWithin (shape_in nodes m) x limit' waiting left work left_work) query_is
      (subst (λ (i : ℕ). NoneWithin (shape_in nodes i) words limit' waiting left work left_work) size h))

  leaf_of : {leaf : Leaf} → HandedLeaf (shape_in nodes (length work)) words limit' waiting left work left_work leaf
      → HandedLeaf (shape_in nodes m) query limit waiting left work left_work leaf
  leaf_of {leaf} h =
      subst (λ (d : Option ℕ). HandedLeaf (shape_in nodes m) query d waiting left work left_work leaf) is_limit
      (subst (λ (x : Trace). HandedLeaf (shape_in nodes m) x limit' waiting left work left_work leaf) query_is
      (subst (λ (i : ℕ). HandedLeaf (shape_in nodes i) words limit' waiting left work left_work leaf) size h))

-- the records may be gone through for query i
module _ {t : Tables} {run : List ℤ} {many : ℕ} (s : Searchable t run many) (i : ℕ) (inside : i < many) where
  ready : Ready t (query_at t run i) (length (leaves (tree_in t)))
  ready = ready_for t run many s i inside

  walks : Walkable t.nodes (node_count t) (query_at t run i)
  walks = walkable t (query_at t run i) (length (leaves (tree_in t))) ready

-- ---- before the loop

pub begin-requires : goal.begin-requires
begin-requires c =
    let a = c.args in
    let t = stored_tables a.stored in
    let query_is = c.requires.query.1 in
    let long = ap length c.new-heap.ensures.stays ∙ c.requires.query.2 in (
      rw (long, query_is) (walks c.requires.searchable.0 a.i c.requires.query.0),
      c.new-heap.ensures.none,
    )

pub loop-leaf-init : goal.loop-leaf-init
loop-leaf-init c =
    let a = c.args in
    let t = stored_tables a.stored in
    let query_is = c.requires.query.1 in
    let b = c.begin.ensures in
    let work = c.begin.new.heap.keys.now in
    let long = ap length c.new-heap.ensures.stays ∙ c.requires.query.2 in
    let begun : Begun (shape_in t.nodes (node_count t)) (query_at t a.queries.now a.i) work =
    subst (λ (x : Trace). Begun (shape_in t.nodes (node_count t)) x work) query_is
    (subst (λ (m : ℕ). Begun (shape_in t.nodes m) (samples_of a.query.now.trace.now) work) long b.begun) in (
      rw b.one (state_start t a.queries.now a.many a.i (node_count t) refl work a.bests.now a.marks.now a.leaves begun c.requires.searchable.1),
      b.room.long ∙ long,
      refl,
    )

-- ---- a turn

pub distance_at-requires : goal.distance_at-requires
distance_at-requires c = (
  omega (arith, c.requires.query.0, c.requires.searchable.0.few),
  omega (arith, c.requires.query.0, c.loop-leaf.invariant.0.room.bests_long),
)

pub next_leaf-requires : goal.next_leaf-requires
next_leaf-requires c =
    let a = c.args in
    let t = stored_tables a.stored in
    let query_is = c.requires.query.1 in
    let i = c.loop-leaf.invariant in (
      rw (i.1, query_is) (walks c.requires.searchable.0 a.i c.requires.query.0),
      rw (i.1, query_is) i.0.waits,
    )

-- ---- the end

pub returns : goal.returns
unfolding Handed
returns c =
    let a = c.args in
    let t = stored_tables a.stored in
    let query_is = c.requires.query.1 in
    let i = c.loop-leaf.invariant in
    let none = none_left a.stored.nodes.now query_is i.1 c.distance_at.ensures c.in_default.ensures.handed in
    record {
      turns = state_end t a.queries.now a.many a.i c.requires.query.0 i.0 none.past;
      counted = i.0.room.counted;
    }

-- ---- a leaf

pub read_once-read-requires : goal.read_once-read-requires
unfolding Handed
read_once-read-requires c =
    let a = c.args in
    let t = stored_tables a.stored in
    let query_is = c.requires.query.1 in
    let i = c.loop-leaf.invariant in
    let leaf = leaf_of a.stored.nodes.now query_is i.1 c.distance_at.ensures c.in-Some.ensures.handed in
    let s = c.requires.searchable.0 in
    let inside : c.in-Some.leaf.number < node_count t = omega (arith, leaf.inside, shape_size t.nodes (node_count t)) in
    record {
      searchable = (s, i.0.room);
      leaf = (inside, leaf_kind t.nodes (node_count t) _ (walks s a.i c.requires.query.0) c.in-Some.leaf.number inside leaf.is_leaf);
    }

pub loop-leaf-smaller : goal.loop-leaf-smaller
unfolding Handed
loop-leaf-smaller c =
    let a = c.args in
    let t = stored_tables a.stored in
    let query_is = c.requires.query.1 in
    let i = c.loop-leaf.invariant in
    let leaf = leaf_of a.stored.nodes.now query_is i.1 c.distance_at.ensures c.in-Some.ensures.handed in
    leaf_less t a.queries.now a.many a.i c.requires.query.0 i.0 leaf

pub loop-leaf-preserved : goal.loop-leaf-preserved
unfolding Handed
loop-leaf-preserved c =
    let a = c.args in
    let t = stored_tables a.stored in
    let query_is = c.requires.query.1 in
    let i = c.loop-leaf.invariant in
    let leaf = leaf_of a.stored.nodes.now query_is i.1 c.distance_at.ensures c.in-Some.ensures.handed in
    let r = c.read_once-read in
    let room = c.in-Some.ensures.room in (
      state_leaf t a.queries.now a.many a.i c.requires.query.0 i.0 leaf r.new.bests r.new.marks r.result r.ensures.turns r.ensures.counted
          r.auto.bests r.auto.marks,
      room.long ∙ i.1,
      room.same ∙ i.2,
    )
