-- `figures_below::figures::node_figures` meets its contract: a leaf's figures are taken from its traces, an inner node's are those of its
-- children together.
use mathlib.Core.Path.{◌≡◌, sym, ap, ◌∙◌}
use mathlib.Core.List.{List, ◌++◌, map, map-append}
use Prim.Native.Nat.{ℕ, ◌+◌, ◌*◌, ◌≤◌, ◌<◌}
use native.Mathlib.Omega.{arith}
use lib.IntN.{ℤ}
use lib.ListN.{length, length-map}
use Rattle.dstree.specs.Measures.{Trace}
use Rattle.dstree.specs.Figures.{run}
use Rattle.dstree.specs.Adding.{segment_of}
use Rattle.tables.specs.Layout.{kind_place, first_place, right_place, record_places}
use Rattle.tables.specs.Tables.{record_of}
use Rattle.tables.specs.View.{small_at, trace_in}
use Rattle.leaf_figures.specs.Sides.{segment_by}
use Rattle.figures_below.specs.Compared.{numbers_laid_at, AboveExact}
use Rattle.figures_below.specs.Compared.{traces_under}
use Rattle.figures_below.proofs.Joining.{joined_is}
use Rattle.figures_below.proofs.figures.node_figures.Goals as goal

in_table : {samples nodes : List ℤ} {n : ℕ} {sizes starts order : List ℕ} {j : ℕ} → AboveExact samples nodes n sizes starts order j
    → (j * record_places + record_places ≤ length nodes) × (j ≤ 8191)
in_table q = let r = q.ready in (omega (arith, r.nodes_room, q.inside), omega (arith, r.nodes_few, q.inside))

-- an inner node
module _ {samples nodes : List ℤ} {n : ℕ} {sizes starts order : List ℕ} {j : ℕ} (q : AboveExact samples nodes n sizes starts order j)
    (inner : 1 ≤ small_at (record_of nodes j) kind_place) where
  left_in : (j < small_at (record_of nodes j) first_place) × (small_at (record_of nodes j) first_place < q.m)
  left_in = q.ready.left_in j q.inside inner

  right_in : (j < small_at (record_of nodes j) right_place) × (small_at (record_of nodes j) right_place < q.m)
  right_in = q.ready.right_in j q.inside inner

  some : (k : ℕ) → k < q.m → 0 < length (traces_under samples n sizes starts order k)
  some k h = rw (length-map (numbers_laid_at sizes starts order k) (trace_in samples n)) (q.ready.some k h)

  together : traces_under samples n sizes starts order j
      ≡ traces_under samples n sizes starts order (small_at (record_of nodes j) first_place) ++ traces_under samples n sizes starts order (small_at (record_of nodes j) right_place)
  together =
      ap (λ (l : List ℕ). traces_of l) (q.ready.of_both j q.inside inner)
      ∙ map-append (trace_in samples n) (numbers_laid_at sizes starts order (small_at (record_of nodes j) first_place)) (numbers_laid_at sizes starts order (small_at (record_of nodes j) right_place))
    where
      traces_of : List ℕ → List Trace
      traces_of l = map (trace_in samples n) l

pub is_leaf-requires : goal.is_leaf-requires
is_leaf-requires c = in_table c.requires.0

pub figures_below-requires : goal.figures_below-requires
figures_below-requires c = (record { m = c.requires.0.m; ready = c.requires.0.ready; inside = c.requires.0.inside }, c.requires.1)

pub returns-then-is_leaf : goal.returns-then-is_leaf
returns-then-is_leaf c = c.figures_below.ensures

pub node_small-left-requires : goal.node_small-left-requires
node_small-left-requires c = let h = in_table c.requires.0 in (h.0, h.1, omega arith)

pub node_small-right-requires : goal.node_small-right-requires
node_small-right-requires c = let h = in_table c.requires.0 in (h.0, h.1, omega arith)

pub child_figures-a-requires : goal.child_figures-a-requires
child_figures-a-requires c =
    let q = c.requires.0 in
    let inner = c.if-is_leaf.ensures in
    let i = left_in q inner in
    rw c.node_small-left.ensures (
      record { m = q.m; ready = q.ready; inside = i.1 },
      c.requires.1,
      q.above (small_at (record_of c.args.nodes.now c.args.j) first_place) i.0 i.1,
    )

pub child_figures-b-requires : goal.child_figures-b-requires
child_figures-b-requires c =
    let q = c.requires.0 in
    let inner = c.if-is_leaf.ensures in
    let i = right_in q inner in
    rw c.node_small-right.ensures (
      record { m = q.m; ready = q.ready; inside = i.1 },
      c.requires.1,
      q.above (small_at (record_of c.args.nodes.now c.args.j) right_place) i.0 i.1,
    )

pub returns : goal.returns
returns c =
    let a = c.args in
    let r = record_of a.nodes.now a.j in
    let q = c.requires.0 in
    let inner = c.if-is_leaf.ensures in
    let on = run a.first a.last in
    let under = traces_under a.samples.now a.n a.sizes.now a.starts.now a.order.now in
    let left = small_at r first_place in
    let right = small_at r right_place in
    let e = c.child_figures-a.ensures ∙ ap (λ (x : ℕ). segment_of (under x) on) c.node_small-left.ensures in
    let f = c.child_figures-b.ensures ∙ ap (λ (x : ℕ). segment_of (under x) on) c.node_small-right.ensures in
    ap (segment_by a.last) c.joined.ensures
    ∙ (joined_is on (under left) (under right) c.child_figures-a.result c.child_figures-b.result
    (some q inner left (left_in q inner).1) (some q inner right (right_in q inner).1) e f
    ∙ ap (λ (l : List Trace). segment_of l on) (sym (together q inner)))
