-- `checking::order::lay_node` meets its contract, by the kind field (`Laying`).
use mathlib.Core.Path.{◌≡◌, sym, ap, subst, ◌∙◌}
use mathlib.Core.List.{List}
use Prim.Native.Nat.{ℕ, ◌+◌, ◌≤◌, ◌<◌}
use native.Mathlib.Omega.{arith}
use lib.IntN.{ℤ}
use lib.ListN.{length, get_or, set, length-set, length-append}
use Rattle.dstree.specs.Node.{Tree}
use Rattle.dstree.specs.Checking.{traces_below}
use Rattle.dstree.proofs.TracesBelow.{some_below}
use Rattle.dstree.proofs.BelowOnce.{few_below}
use Rattle.tables.specs.Layout.{kind_place, first_place, right_place}
use Rattle.tables.specs.Tables.{record_of}
use Rattle.tables.specs.View.{small_at}
use Rattle.tables.specs.Walk.{numbers_of}
use Rattle.tables.specs.Nodes.{tree_by, Walks}
use Rattle.checking.specs.Laid.{SizesLaid, PutFrom, LaidTo}
use Rattle.tables.proofs.ByKind.{size_is, in_table, in_tree, first_stored, leaf_is, inner_is, left_above, right_above}
use Rattle.checking.proofs.ByKind.{leaf_below, inner_below}
use Rattle.checking.proofs.Starting.{starts_inside}
use Rattle.checking.proofs.Laying.{here, laid_leaf, laid_inner}
use Rattle.checking.proofs.order.lay_node.Goals as goal

module _ {nodes : List ℤ} {links : List ℕ} {k m : ℕ} (w : Walks nodes links k m) (j : ℕ) (h : j < m) where
  -- the place of the node, and that of the one behind its traces
  fits : (starts order : List ℕ) → LaidTo (tree_by nodes links k m) j starts order → get_or starts j 0 + length (traces_below (tree_by nodes links k m) j) ≤ 4096
  fits starts order old =
      omega (
        arith,
        starts_inside (here w.shape (in_tree w j h) old) (some_below w.shape j (in_tree w j h)),
        few_below w.shape 0,
        w.few,
      )

  module _ (inner : 1 ≤ small_at (record_of nodes j) kind_place) (sizes : List ℕ) (s : SizesLaid (tree_by nodes links k m) sizes 0) where
    size_of_left : (l : ℕ) → l ≡ small_at (record_of nodes j) first_place → get_or sizes l 0 ≡ length (traces_below (tree_by nodes links k m) (small_at (record_of nodes j) first_place))
    size_of_left l e =
        ap (λ (z : ℕ). get_or sizes z 0) e
        ∙ s.sized (small_at (record_of nodes j) first_place) (omega arith) (omega (arith, (left_above w j h inner).1, size_is w))

    -- behind the left child's traces
    second : (starts order : List ℕ) → LaidTo (tree_by nodes links k m) j starts order → (l : ℕ) → l ≡ small_at (record_of nodes j) first_place
        → get_or starts j 0 + get_or sizes l 0 ≤ 4096
    second starts order old l e =
        let tree : Tree = tree_by nodes links k m in
        omega (
          arith,
          fits starts order old,
          size_of_left l e,
          ap length (inner_below w j h inner),
          length-append (traces_below tree (small_at (record_of nodes j) first_place)) (traces_below tree (small_at (record_of nodes j) right_place)),
        )

pub is_leaf-requires : goal.is_leaf-requires
is_leaf-requires c = in_table c.requires.0 c.args.j c.requires.1

pub node_small-first-requires : goal.node_small-first-requires
node_small-first-requires c = let h = in_table c.requires.0 c.args.j c.requires.1 in (h.0, h.1, omega arith)

pub offset_bounds-starts-j : goal.offset_bounds-starts-j
offset_bounds-starts-j c = omega (arith, in_table c.requires.0 c.args.j c.requires.1)

pub bounds-starts-j : goal.bounds-starts-j
bounds-starts-j c = omega (arith, in_table c.requires.0 c.args.j c.requires.1, c.requires.3.starts_places)

pub put_list-requires : goal.put_list-requires
put_list-requires c =
    let w = c.requires.0 in
    let j = c.args.j in
    let kind = c.if-is_leaf.ensures in
    let links = c.args.links.now in
    let k = c.args.k in
    let below = ap length (leaf_below w j c.requires.1 kind) in
    let size : length (numbers_of links k c.node_small-first.result) ≡ length (numbers_of links k (small_at (record_of c.args.nodes.now j) first_place)) =
    ap (λ (x : ℕ). length (numbers_of links k x)) c.node_small-first.ensures in (
      subst (λ (x : ℕ). x < k) (sym c.node_small-first.ensures) (first_stored w j c.requires.1 kind),
      w.few,
      w.links_room,
      w.rising,
      omega (arith, c.from.ensures, fits w j c.requires.1 c.args.starts.now c.args.order.now c.requires.3, below, size),
    )

pub returns-then-is_leaf : goal.returns-then-is_leaf
returns-then-is_leaf c =
    let w = c.requires.0 in
    let a = c.args in
    let kind = c.if-is_leaf.ensures in
    let after = c.put_list.new.order in
    laid_leaf w.shape (in_tree w a.j c.requires.1) c.requires.3 (leaf_is w a.j c.requires.1 kind)
    (subst (λ (l : List ℕ). PutFrom a.order.now after (get_or a.starts.now a.j 0) l) (sym (leaf_below w a.j c.requires.1 kind))
    (subst (λ (x : ℕ). PutFrom a.order.now after x (numbers_of a.links.now a.k (small_at (record_of a.nodes.now a.j) first_place))) c.from.ensures
    (subst (λ (x : ℕ). PutFrom a.order.now after c.from.result (numbers_of a.links.now a.k x)) c.node_small-first.ensures c.put_list.ensures)))

pub node_small-right-requires : goal.node_small-right-requires
node_small-right-requires c = let h = in_table c.requires.0 c.args.j c.requires.1 in (h.0, h.1, omega arith)

pub offset_bounds-sizes-first : goal.offset_bounds-sizes-first
offset_bounds-sizes-first c =
    let inner = c.if-is_leaf.ensures in
    omega (arith, c.node_small-first.ensures, (left_above c.requires.0 c.args.j c.requires.1 inner).1, c.requires.0.nodes_few)

pub bounds-sizes-first : goal.bounds-sizes-first
bounds-sizes-first c =
    let inner = c.if-is_leaf.ensures in
    omega (arith, c.node_small-first.ensures, (left_above c.requires.0 c.args.j c.requires.1 inner).1, c.requires.0.nodes_few, c.requires.2.places)

pub offset_bounds-starts-first : goal.offset_bounds-starts-first
offset_bounds-starts-first c =
    let inner = c.if-is_leaf.ensures in
    omega (arith, c.node_small-first.ensures, (left_above c.requires.0 c.args.j c.requires.1 inner).1, c.requires.0.nodes_few)

pub bounds-starts-first : goal.bounds-starts-first
bounds-starts-first c =
    let inner = c.if-is_leaf.ensures in
    omega (arith, c.node_small-first.ensures, (left_above c.requires.0 c.args.j c.requires.1 inner).1, c.requires.0.nodes_few, c.requires.3.starts_places)

pub overflow_add-starts : goal.overflow_add-starts
overflow_add-starts c =
    let inner = c.if-is_leaf.ensures in
    omega (arith, second c.requires.0 c.args.j c.requires.1 inner c.args.sizes.now c.requires.2 c.args.starts.now c.args.order.now c.requires.3 c.node_small-first.result c.node_small-first.ensures)

pub offset_bounds-starts-right : goal.offset_bounds-starts-right
offset_bounds-starts-right c =
    let inner = c.if-is_leaf.ensures in
    omega (arith, c.node_small-right.ensures, (right_above c.requires.0 c.args.j c.requires.1 inner).1, c.requires.0.nodes_few)

pub bounds-starts-right : goal.bounds-starts-right
bounds-starts-right c =
    let inner = c.if-is_leaf.ensures in
    omega (
      arith,
      c.node_small-right.ensures,
      (right_above c.requires.0 c.args.j c.requires.1 inner).1,
      c.requires.0.nodes_few,
      c.requires.3.starts_places,
      length-set c.args.starts.now c.node_small-first.result (get_or c.args.starts.now c.args.j 0),
    )

pub returns : goal.returns
returns c =
    let inner = c.if-is_leaf.ensures in
    let a = c.args in
    let w = c.requires.0 in
    let h = c.requires.1 in
    let tree : Tree = tree_by a.nodes.now a.links.now a.k a.m in
    let at = get_or a.starts.now a.j 0 in
    let left = small_at (record_of a.nodes.now a.j) first_place in
    let right = small_at (record_of a.nodes.now a.j) right_place in
    let put : ℕ → ℕ → ℕ → List ℕ = λ x y z. set (set a.starts.now x at) y (at + z) in
    let size = get_or a.sizes.now c.node_small-first.result 0 in
    let same : put c.node_small-first.result c.node_small-right.result size ≡ put left right (length (traces_below tree left)) =
    ap (λ (x : ℕ). put x c.node_small-right.result size) c.node_small-first.ensures ∙
    (ap (λ (x : ℕ). put left x size) c.node_small-right.ensures ∙ ap (put left right) (size_of_left w a.j h inner a.sizes.now c.requires.2 c.node_small-first.result c.node_small-first.ensures)) in
    subst (λ (l : List ℕ). LaidTo tree (a.j + 1) l a.order.now) (sym same)
    (laid_inner w.shape (in_tree w a.j h) c.requires.3 (inner_is w a.j h inner).is
    (omega (arith, (left_above c.requires.0 c.args.j c.requires.1 inner).1, w.nodes_few, c.requires.3.starts_places))
    (omega (arith, (right_above c.requires.0 c.args.j c.requires.1 inner).1, w.nodes_few, c.requires.3.starts_places)))
