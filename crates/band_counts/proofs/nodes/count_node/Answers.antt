-- `band_counts::nodes::count_node` meets its contract: a leaf's traces are counted, and an inner node's children get what it has reached
-- (`Turns`).
use mathlib.Core.Path.{◌≡◌, refl, sym, ap, ap₂, subst, ◌∙◌}
use mathlib.Core.List.{List}
use Prim.Native.Nat.{ℕ, suc, ◌+◌, ◌*◌, ◌≤◌, ◌<◌}
use native.Mathlib.Numerals.{add-one}
use native.Mathlib.Omega.{arith}
use lib.IntN.{ℤ}
use lib.ListN.{length, set, length-set}
use Rattle.segment.specs.Stored.{samples_of}
use Rattle.segment.proofs.Stored.{samples_length}
use Rattle.dstree.specs.Measures.{Trace}
use Rattle.dstree.specs.Node.{Tree}
use Rattle.tables.specs.Layout.{kind_place, first_place, right_place, record_places}
use Rattle.tables.specs.Tables.{record_of}
use Rattle.tables.specs.View.{small_at}
use Rattle.tables.specs.Walk.{numbers_of}
use Rattle.tables.specs.Nodes.{tree_by}
use Rattle.tables.proofs.ByKind.{size_is, in_table, in_tree, leaf_is, first_stored, inner_is, left_above, right_above}
use Rattle.query.specs.Bounded.{Bounded}
use Rattle.band_counts.specs.Reached.{by_bound_in, by_upper_in}
use Rattle.band_counts.specs.Counted.{count_at, count_with, Countable, CountedTo}
use Rattle.band_counts.proofs.Reached.{edges_are}
use Rattle.band_counts.proofs.Turns.{fits_more, leaf_taken, inner_taken}
use Rattle.band_counts.proofs.Taken.{pair_is}
use Rattle.band_counts.proofs.nodes.count_node.Goals as goal

-- the same places and the same pair, as the code has them
same_places : (tree : Tree) (query : Trace) (edges work list : List ℕ) (j : ℕ) {l l' r r' v v' : ℕ} → l ≡ l' → r ≡ r' → v ≡ v'
    → CountedTo tree query edges (suc j) (set (set work l' v') r' v') list → CountedTo tree query edges (j + 1) (set (set work l v) r v) list
same_places tree query edges work list j e f g h = rw (e, f, g, add-one j) h

-- ---- node j of the nodes that may be counted
module _ {nodes : List ℤ} {links : List ℕ} {k m : ℕ} {query : Trace} {edges : List ℕ} (given : Countable nodes links k m query edges) (j : ℕ) (inside : j < m) where
  abbrev tree : Tree
  tree = tree_by nodes links k m

  abbrev r : List ℤ
  r = record_of nodes j

  room : (j * record_places + record_places ≤ length nodes) × (j ≤ 8191)
  room = in_table given.walks j inside

  some_edges : (2 ≤ length edges) × (length edges ≤ 16)
  some_edges = let e = edges_are edges given.edged in (e.0, e.1)

  -- ---- an inner node
  module _ (kind : 1 ≤ small_at r kind_place) where
    left_low : small_at r first_place < 8192
    left_low = omega (arith, (left_above given.walks j inside kind).1, given.walks.nodes_few)

    right_low : small_at r right_place < 8192
    right_low = omega (arith, (right_above given.walks j inside kind).1, given.walks.nodes_few)

    left_in : (work : List ℕ) → length tree ≤ length work → small_at r first_place < length work
    left_in work h = omega (arith, (left_above given.walks j inside kind).1, h, size_is given.walks)

    right_in : (work : List ℕ) → length tree ≤ length work → small_at r right_place < length work
    right_in work h = omega (arith, (right_above given.walks j inside kind).1, h, size_is given.walks)

pub offset_bounds-work-j : goal.offset_bounds-work-j
offset_bounds-work-j c = let p = c.requires.countable in omega (arith, (room p.0 c.args.j p.1).1)

pub bounds-work-j : goal.bounds-work-j
bounds-work-j c = let p = c.requires.countable in omega (arith, in_tree p.0.walks c.args.j p.1, c.requires.counted.work_long)

pub node_pair-pair-requires : goal.node_pair-pair-requires
node_pair-pair-requires c =
    let p = c.requires.countable in
    let a = c.args in
    let in_place = room p.0 a.j p.1 in
    (in_place.0, in_place.1, (some_edges p.0 a.j p.1).1, subst (Bounded (record_of a.nodes.now a.j)) (samples_length a.query.now.trace.now) (p.0.bounded a.j p.1))

pub node_small-first-requires : goal.node_small-first-requires
node_small-first-requires c = let p = c.requires.countable in let in_place = room p.0 c.args.j p.1 in (in_place.0, in_place.1, omega arith)

pub is_leaf-requires : goal.is_leaf-requires
is_leaf-requires c = let p = c.requires.countable in room p.0 c.args.j p.1

pub list_size-traces-requires : goal.list_size-traces-requires
list_size-traces-requires c =
    let p = c.requires.countable in
    let w = p.0.walks in
    (rw c.node_small-first.ensures (first_stored w c.args.j p.1 c.if-is_leaf.ensures), w.few, w.links_room, w.rising)

pub overflow_sub-edges : goal.overflow_sub-edges
overflow_sub-edges c = let p = c.requires.countable in omega (arith, (some_edges p.0 c.args.j p.1).0)

pub count_leaf-requires : goal.count_leaf-requires
count_leaf-requires c =
    let p = c.requires.countable in
    let e = some_edges p.0 c.args.j p.1 in (
      omega (arith, e.0, e.1),
      c.requires.counted.list_long,
      omega (arith, c.list_size-traces.ensures.size, p.0.walks.few),
      λ k h. fits_more (room p.0 c.args.j p.1).1 (c.requires.counted.small k (omega (arith, h))),
    )

pub shape_of-list-then-is_leaf : goal.shape_of-list-then-is_leaf
shape_of-list-then-is_leaf c = c.count_leaf.auto.list

pub returns-then-is_leaf : goal.returns-then-is_leaf
returns-then-is_leaf c =
    let a = c.args in
    let p = c.requires.countable in
    let w = p.0.walks in
    let query = samples_of a.query.now.trace.now in
    let edges = a.edges.now in
    let counted = c.requires.counted in
    let numbers = numbers_of a.links.now a.k (small_at (record_of a.nodes.now a.j) first_place) in
    let size = c.list_size-traces in
    let many : size.result ≡ length numbers = size.ensures.value ∙ ap (λ (x : ℕ). length (numbers_of a.links.now a.k x)) c.node_small-first.ensures in
    let call = c.count_leaf in
    let pair = c.node_pair-pair.ensures ∙ pair_is p.0 a.j p.1 a.work.now a.list.now counted in
    record {
      counted_to = subst (λ (i : ℕ). CountedTo (tree_by a.nodes.now a.links.now a.k a.m) query edges i a.work.now call.new.list) (sym (add-one a.j))
          (leaf_taken (tree_by a.nodes.now a.links.now a.k a.m) query edges w.shape.children p.0.edged a.j (in_tree w a.j p.1)
          a.work.now a.list.now counted numbers (leaf_is w a.j p.1 c.if-is_leaf.ensures)
          (omega (arith, many, size.ensures.size, w.few)) call.new.list call.auto.list
          (λ k h. call.ensures.counts k h
          ∙ ap₂ (λ (a b : ℕ). count_with (by_bound_in a) (by_upper_in a) b k (count_at c.args.list.now k)) pair many));
      rest = call.ensures.rest;
    }

pub node_small-right-requires : goal.node_small-right-requires
node_small-right-requires c = let p = c.requires.countable in let in_place = room p.0 c.args.j p.1 in (in_place.0, in_place.1, omega arith)

pub offset_bounds-work-first : goal.offset_bounds-work-first
offset_bounds-work-first c =
    let p = c.requires.countable in
    omega (arith, c.node_small-first.ensures, left_low p.0 c.args.j p.1 c.if-is_leaf.ensures)

pub bounds-work-first : goal.bounds-work-first
bounds-work-first c =
    let p = c.requires.countable in
    omega (arith, c.node_small-first.ensures, left_in p.0 c.args.j p.1 c.if-is_leaf.ensures c.args.work.now c.requires.counted.work_long)

pub offset_bounds-work-right : goal.offset_bounds-work-right
offset_bounds-work-right c =
    let p = c.requires.countable in
    omega (arith, c.node_small-right.ensures, right_low p.0 c.args.j p.1 c.if-is_leaf.ensures)

pub bounds-work-right : goal.bounds-work-right
bounds-work-right c =
    let p = c.requires.countable in
    let within = right_in p.0 c.args.j p.1 c.if-is_leaf.ensures c.args.work.now c.requires.counted.work_long in
    simp length-set (omega (arith, c.node_small-right.ensures, within))

pub shape_of-work : goal.shape_of-work
shape_of-work c = simp length-set

pub returns : goal.returns
returns c =
    let a = c.args in
    let p = c.requires.countable in
    let w = p.0.walks in
    let query = samples_of a.query.now.trace.now in
    let edges = a.edges.now in
    let tree = tree_by a.nodes.now a.links.now a.k a.m in
    let r = record_of a.nodes.now a.j in
    let counted = c.requires.counted in
    let b = inner_is w a.j p.1 c.if-is_leaf.ensures in
    let pair = c.node_pair-pair.ensures ∙ pair_is p.0 a.j p.1 a.work.now a.list.now counted in
    let all = inner_taken tree query edges w.shape.children p.0.edged a.j (in_tree w a.j p.1)
    a.work.now a.list.now counted b.test (small_at r first_place) (small_at r right_place) b.is in
    record {
      counted_to = same_places tree query edges a.work.now a.list.now a.j c.node_small-first.ensures c.node_small-right.ensures pair all;
      rest = refl;
    }
