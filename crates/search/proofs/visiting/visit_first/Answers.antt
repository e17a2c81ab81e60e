-- `search::visiting::visit_first` meets its contract: `SearchState` is the invariant, and the leaves to come are the measure (`Turns`).
use mathlib.Core.Path.{◌≡◌, refl, sym, ap, ◌∙◌, subst}
use mathlib.Core.List.{List}
use Prim.Native.Nat.{ℕ, ◌≤◌, ◌<◌}
use native.Mathlib.Omega.{arith}
use lib.IntN.{ℤ}
use lib.ListN.{length}
use Rattle.segment.specs.Stored.{samples_of}
use Rattle.segment.proofs.Stored.{samples_length}
use Rattle.dstree.specs.Measures.{Trace}
use Rattle.tables.specs.Tables.{Tables, node_count}
use Rattle.reading.proofs.Meaning.{LeafInTables}
use Rattle.tables.specs.View.{shape_in}
use Rattle.tables.proofs.Views.{shape_size}
use Rattle.leaf_order.specs.Waits.{Begun}
use Rattle.std.specs.Prelude.{Option}
use Rattle.leaf_order.specs.Handed.{HandedLeaf, NoneWithin, Handed}
use Rattle.leaf_order.specs.declared.leaves.Leaf.{Leaf}
use Rattle.leaf_order.proofs.Records.{number_fits, leaf_kind}
use Rattle.search.specs.Lent.{stored_tables}
use Rattle.search.specs.Searched.{Ready}
use Rattle.search.proofs.Facts.{walkable, leaf_at, leaves_few}
use Rattle.search.proofs.Turns.{SearchState, state_start, out_most, state_end, stored_as, leaf_room, state_limit, leaf_less, state_leaf}
use Rattle.search.proofs.visiting.visit_first.Goals as goal

-- ---- what `next_leaf` answers, over the tree of all records and with the limit as the list has it
module _ (nodes : List ℤ) {query : Trace} {limit limit' : Option ℕ} {waiting left m : ℕ} {work left_work : List ℕ} (size : length work ≡ m)
    (is_limit : limit' ≡ limit) where
  none_left : NoneWithin (shape_in nodes (length work)) query limit' waiting left work left_work
      → NoneWithin (shape_in nodes m) query limit waiting left work left_work
  none_left h =
      subst (λ (d : Option ℕ). NoneWithin (shape_in nodes m) query d waiting left work left_work) is_limit
      (subst (λ (i : ℕ). NoneWithin (shape_in nodes i) query limit' waiting left work left_work) size h)

  leaf_of : {leaf : Leaf} → HandedLeaf (shape_in nodes (length work)) query limit' waiting left work left_work leaf
      → HandedLeaf (shape_in nodes m) query limit waiting left work left_work leaf
  leaf_of {leaf} h =
      subst (λ (d : Option ℕ). HandedLeaf (shape_in nodes m) query d waiting left work left_work leaf) is_limit
      (subst (λ (i : ℕ). HandedLeaf (shape_in nodes i) query limit' waiting left work left_work leaf) size h)

-- ---- in a turn
module _ {k most : ℕ} {t : Tables} {query : Trace} {trail₀ list₀ work trail list : List ℕ} {waiting out traces many : ℕ}
    (s : SearchState k most t query (shape_in t.nodes (node_count t)) trail₀ list₀ work trail list waiting out traces many)
    (ready : Ready t query (length trail₀)) where
  out_few : out ≤ 8192
  out_few = omega (arith, out_most k most t query trail₀ list₀ ready s, leaves_few t query (length trail₀) ready)

  -- a leaf is handed out
  module _ {limit : Option ℕ} {left : ℕ} {leaf : Leaf} {left_work : List ℕ}
      (h : HandedLeaf (shape_in t.nodes (node_count t)) query limit waiting left work left_work leaf) where
    inside : leaf.number < node_count t
    inside = omega (arith, h.inside, shape_size t.nodes (node_count t))

    fits : leaf.number ≤ 8191
    fits = number_fits t.nodes (node_count t) query (walkable t query (length trail₀) ready) leaf.number inside

    at_leaf : LeafInTables t leaf.number
    at_leaf =
        leaf_at t query (length trail₀) ready leaf.number inside
        (leaf_kind t.nodes (node_count t) query (walkable t query (length trail₀) ready) leaf.number inside h.is_leaf)

-- ---- before the loop

pub begin-requires : goal.begin-requires
begin-requires c =
    let long = ap length c.new-heap.ensures.stays ∙ c.requires.ready.1 in (
      rw long (walkable _ (samples_of c.args.query.now.trace.now) (length c.args.trail.now) c.requires.ready.0),
      c.new-heap.ensures.none,
    )

pub loop-leaf-init : goal.loop-leaf-init
loop-leaf-init c =
    let a = c.args in
    let t = stored_tables a.stored in
    let b = c.begin.ensures in
    let work = c.begin.new.heap.keys.now in
    let long = ap length c.new-heap.ensures.stays ∙ c.requires.ready.1 in
    let begun = subst (λ (m : ℕ). Begun (shape_in t.nodes m) (samples_of a.query.now.trace.now) work) long b.begun in (
      rw b.one
          (state_start a.k a.most t (samples_of a.query.now.trace.now) a.trail.now a.list.now c.requires.ready.0 c.requires.list (node_count t) refl work begun),
      b.room.long ∙ long,
      refl,
    )

-- ---- a turn

pub next_leaf-requires : goal.next_leaf-requires
next_leaf-requires c =
    let i = c.loop-leaf.invariant in
    let walks = walkable _ (samples_of c.args.query.now.trace.now) (length c.args.trail.now) c.requires.ready.0 in
    (rw i.1 walks, rw i.1 i.0.waits)

-- ---- the end

pub returns : goal.returns
unfolding Handed
returns c =
    let a = c.args in
    let i = c.loop-leaf.invariant in
    let t = stored_tables a.stored in
    let none = none_left c.args.stored.nodes.now i.1 c.kth_distance.ensures c.in_default.ensures.handed in
    state_end a.k a.most t (samples_of a.query.now.trace.now) a.trail.now a.list.now c.requires.ready.0 i.0 none.past

-- ---- a leaf is not read, since as many are read as may be

pub returns-then-most-out : goal.returns-then-most-out
unfolding Handed
returns-then-most-out c =
    let a = c.args in
    let i = c.loop-leaf.invariant in
    let t = stored_tables a.stored in
    let leaf = leaf_of c.args.stored.nodes.now i.1 c.kth_distance.ensures c.in-Some.ensures.handed in
    state_limit a.k a.most t (samples_of a.query.now.trace.now) a.trail.now a.list.now c.requires.ready.0 i.0 leaf
    (omega (arith, c.if-most-out.true, i.0.out_few))

-- ---- it is read

pub node_small-first-requires : goal.node_small-first-requires
unfolding Handed
node_small-first-requires c =
    let i = c.loop-leaf.invariant in
    let ready = c.requires.ready.0 in
    let leaf = leaf_of c.args.stored.nodes.now i.1 c.kth_distance.ensures c.in-Some.ensures.handed in
    let walks = walkable _ (samples_of c.args.query.now.trace.now) (length c.args.trail.now) ready in
    (walks.record_room c.in-Some.leaf.number (inside i.0 ready leaf), fits i.0 ready leaf, omega arith)

pub read_leaf-r-requires : goal.read_leaf-r-requires
unfolding Handed
read_leaf-r-requires c =
    let a = c.args in
    let i = c.loop-leaf.invariant in
    let ready = c.requires.ready.0 in
    let t = stored_tables a.stored in
    let leaf = leaf_of c.args.stored.nodes.now i.1 c.kth_distance.ensures c.in-Some.ensures.handed in (
      stored_as t c.in-Some.leaf.number (at_leaf i.0 ready leaf) (length a.query.now.trace.now) c.wide-count.result c.node_small-first.result
          (sym (samples_length a.query.now.trace.now) ∙ ready.same_length) (c.wide-count.ensures ∙ c.field.ensures) c.node_small-first.ensures,
      refl,
      i.0.room,
    )

pub overflow_add-traces : goal.overflow_add-traces
unfolding Handed
overflow_add-traces c =
    let i = c.loop-leaf.invariant in
    let ready = c.requires.ready.0 in
    let leaf = leaf_of c.args.stored.nodes.now i.1 c.kth_distance.ensures c.in-Some.ensures.handed in
    omega (arith, i.0.few, out_few i.0 ready, c.read_leaf-r.ensures.size, c.wide-count.ensures ∙ c.field.ensures, (at_leaf i.0 ready leaf).stored.few)

pub overflow_cast-trail : goal.overflow_cast-trail
unfolding Handed
overflow_cast-trail c =
    let i = c.loop-leaf.invariant in
    omega (arith, fits i.0 c.requires.ready.0 (leaf_of c.args.stored.nodes.now i.1 c.kth_distance.ensures c.in-Some.ensures.handed))

pub bounds-trail-out : goal.bounds-trail-out
unfolding Handed
bounds-trail-out c =
    let a = c.args in
    let i = c.loop-leaf.invariant in
    let t = stored_tables a.stored in
    let leaf = leaf_of c.args.stored.nodes.now i.1 c.kth_distance.ensures c.in-Some.ensures.handed in
    omega (arith, leaf_room a.k a.most t (samples_of a.query.now.trace.now) a.trail.now a.list.now c.requires.ready.0 i.0 leaf)

pub loop-leaf-smaller : goal.loop-leaf-smaller
unfolding Handed
loop-leaf-smaller c =
    let a = c.args in
    let i = c.loop-leaf.invariant in
    let t = stored_tables a.stored in
    let leaf = leaf_of c.args.stored.nodes.now i.1 c.kth_distance.ensures c.in-Some.ensures.handed in
    leaf_less a.k a.most t (samples_of a.query.now.trace.now) a.trail.now a.list.now c.requires.ready.0 i.0 leaf

pub loop-leaf-preserved : goal.loop-leaf-preserved
unfolding Handed
loop-leaf-preserved c =
    let a = c.args in
    let i = c.loop-leaf.invariant in
    let ready = c.requires.ready.0 in
    let t = stored_tables a.stored in
    let handed = c.in-Some.ensures in
    let leaf = leaf_of c.args.stored.nodes.now i.1 c.kth_distance.ensures handed.handed in
    let count_is = c.wide-count.ensures ∙ c.field.ensures in
    let r = c.read_leaf-r in
    let more_read : c.loop-leaf.out < a.most = omega (arith, c.if-most-out.false) in
    let state =
    state_leaf a.k a.most t (samples_of a.query.now.trace.now) a.trail.now a.list.now ready i.0 leaf more_read (at_leaf i.0 ready leaf)
    (length a.query.now.trace.now) c.wide-count.result c.node_small-first.result r.result.traces r.result.listed r.new.list
    (sym (samples_length a.query.now.trace.now) ∙ ready.same_length) count_is c.node_small-first.ensures r.ensures.list r.auto.list r.ensures.traces r.ensures.size in
    (state, handed.room.long ∙ i.1, handed.room.same ∙ i.2)
