-- `band_counts::nodes::count_nodes` meets its contract: before the first node nothing is counted, and each turn takes one node (`Turns`).
use mathlib.Core.Path.{◌≡◌, refl, sym, ap, subst, ◌∙◌}
use Prim.Native.Nat.{ℕ, ◌*◌, ◌-◌, ◌≤◌}
use native.Mathlib.Omega.{arith}
use lib.ListN.{length, drop, length-set}
use mathlib.Core.List.{List}
use lib.Dec.{T}
use Rattle.dstree.specs.Bands.{is_edges}
use Rattle.segment.specs.Stored.{samples_of}
use Rattle.tables.specs.Nodes.{tree_by}
use Rattle.tables.proofs.ByKind.{size_is}
use Rattle.band_counts.specs.Counted.{CountedTo}
use Rattle.band_counts.proofs.Reached.{edges_are}
use Rattle.band_counts.proofs.Turns.{filled_rest, none_taken}
use Rattle.band_counts.proofs.nodes.count_nodes.Goals as goal

-- edges that may be given
few : (edges : List ℕ) → T (is_edges edges) → (2 ≤ length edges) × (length edges ≤ 16)
few edges edged = let e = edges_are edges edged in (e.0, e.1)

pub overflow_sub-edges : goal.overflow_sub-edges
overflow_sub-edges c = omega (arith, few c.args.edges.now c.requires.countable.edged)

pub overflow_mul-edges : goal.overflow_mul-edges
overflow_mul-edges c = omega (arith, few c.args.edges.now c.requires.countable.edged)

pub fill_first-requires : goal.fill_first-requires
fill_first-requires c = c.requires.room.2

pub overflow_mul-work : goal.overflow_mul-work
overflow_mul-work c = omega (arith, few c.args.edges.now c.requires.countable.edged)

pub bounds-work-0 : goal.bounds-work-0
bounds-work-0 c = c.requires.room.0

pub loop-j-init : goal.loop-j-init
loop-j-init c =
    let w = c.requires.countable in
    let z = c.fill_first.ensures in (
      subst (CountedTo (tree_by c.args.nodes.now c.args.links.now c.args.k c.args.m) (samples_of c.args.query.now.trace.now) c.args.edges.now 0 _)
          (sym z)
          (none_taken (tree_by c.args.nodes.now c.args.links.now c.args.k c.args.m) (samples_of c.args.query.now.trace.now) c.args.edges.now
          w.walks.shape.children w.edged c.args.work.now c.args.list.now (32 * length c.args.edges.now) (omega arith) c.requires.room.0
          (omega (arith, c.requires.room.1, size_is w.walks)) c.requires.room.2),
      refl,
      refl,
      refl,
    )

pub count_node-requires : goal.count_node-requires
count_node-requires c = record { countable = (c.requires.countable, c.loop-j-test.true); counted = c.loop-j.invariant.0 }

pub loop-j-preserved : goal.loop-j-preserved
loop-j-preserved c =
    let call = c.count_node in
    let l = c.loop-j in (
      call.ensures.counted_to,
      call.ensures.rest ∙ l.invariant.1,
      call.auto.work ∙ l.invariant.2,
      call.auto.list ∙ l.invariant.3,
    )

pub shape_of-work : goal.shape_of-work
shape_of-work c = c.loop-j.invariant.2 ∙ length-set c.args.work.now 0 (32 * length c.args.edges.now)

pub shape_of-list : goal.shape_of-list
shape_of-list c = c.loop-j.invariant.3 ∙ c.fill_first.auto.table

pub returns : goal.returns
returns c =
    let l = c.loop-j in
    let all : l.j ≡ c.args.m = omega (arith, c.loop-j.auto.j-end, c.loop-j-test.false) in
    let n = 2 * (length c.args.edges.now - 1) in
    let z = c.fill_first.ensures in record {
      counted_to = subst (λ (j : ℕ). CountedTo (tree_by c.args.nodes.now c.args.links.now c.args.k c.args.m) (samples_of c.args.query.now.trace.now)
          c.args.edges.now j l.work l.list) all l.invariant.0;
      rest = l.invariant.1 ∙ (ap (drop n) z ∙ filled_rest n c.args.list.now);
    }
