-- `checking::sizes::node_size` meets its contract: a leaf's traces are its list, an inner node's those of its children.
use mathlib.Core.Path.{◌≡◌, sym, ap, ◌∙◌}
use mathlib.Core.List.{List}
use Prim.Native.Nat.{ℕ, ◌+◌, ◌≤◌, ◌<◌}
use native.Mathlib.Omega.{arith}
use lib.IntN.{ℤ}
use lib.ListN.{length, get_or, length-append}
use Rattle.dstree.specs.Node.{Tree}
use Rattle.dstree.specs.Checking.{traces_below}
use Rattle.dstree.proofs.BelowOnce.{few_below}
use Rattle.tables.specs.Layout.{kind_place, first_place, right_place}
use Rattle.tables.specs.Tables.{record_of}
use Rattle.tables.specs.View.{small_at}
use Rattle.tables.specs.Walk.{numbers_of}
use Rattle.tables.specs.Nodes.{tree_by, Walks}
use Rattle.checking.specs.Laid.{SizesLaid}
use Rattle.tables.proofs.ByKind.{size_is, in_table, first_stored, left_above, right_above}
use Rattle.checking.proofs.ByKind.{leaf_below, inner_below}
use Rattle.checking.proofs.sizes.node_size.Goals as goal

-- what the array has for the two children of an inner node
total : {nodes : List ℤ} {links : List ℕ} {k m : ℕ} (w : Walks nodes links k m) (j : ℕ) (h : j < m) → 1 ≤ small_at (record_of nodes j) kind_place
    → (sizes : List ℕ) → SizesLaid (tree_by nodes links k m) sizes (j + 1) → {l r : ℕ} → l ≡ small_at (record_of nodes j) first_place → r ≡ small_at (record_of nodes j) right_place
    → get_or sizes l 0 + get_or sizes r 0 ≡ length (traces_below (tree_by nodes links k m) j)
total {nodes} {links} {k} {m} w j h inner sizes s e g =
    let tree : Tree = tree_by nodes links k m in
    let left = small_at (record_of nodes j) first_place in
    let right = small_at (record_of nodes j) right_place in
    let size_of : (x y : ℕ) → x ≡ y → j < y → y < m → get_or sizes x 0 ≡ length (traces_below tree y) =
    λ x y p q z. ap (λ (v : ℕ). get_or sizes v 0) p ∙ s.sized y (omega arith) (omega (arith, size_is w)) in
    omega (
      arith,
      ap length (inner_below w j h inner),
      length-append (traces_below tree left) (traces_below tree right),
      size_of _ _ e (left_above w j h inner).0 (left_above w j h inner).1,
      size_of _ _ g (right_above w j h inner).0 (right_above w j h inner).1,
    )

pub is_leaf-requires : goal.is_leaf-requires
is_leaf-requires c = in_table c.requires.0 c.args.j c.requires.1

pub node_small-first-requires : goal.node_small-first-requires
node_small-first-requires c = let h = in_table c.requires.0 c.args.j c.requires.1 in (h.0, h.1, omega arith)

pub list_size-requires : goal.list_size-requires
list_size-requires c =
    let w = c.requires.0 in
    (rw c.node_small-first.ensures (first_stored w c.args.j c.requires.1 c.if-is_leaf.ensures), w.few, w.links_room, w.rising)

pub returns-then-is_leaf : goal.returns-then-is_leaf
returns-then-is_leaf c =
    c.list_size.ensures.value
    ∙ (ap (λ (x : ℕ). length (numbers_of c.args.links.now c.args.k x)) c.node_small-first.ensures
    ∙ ap length (sym (leaf_below c.requires.0 c.args.j c.requires.1 c.if-is_leaf.ensures)))

pub node_small-right-requires : goal.node_small-right-requires
node_small-right-requires c = let h = in_table c.requires.0 c.args.j c.requires.1 in (h.0, h.1, omega arith)

pub offset_bounds-sizes-first : goal.offset_bounds-sizes-first
offset_bounds-sizes-first c =
    let inner = c.if-is_leaf.ensures in
    omega (arith, c.node_small-first.ensures, (left_above c.requires.0 c.args.j c.requires.1 inner).1, c.requires.0.nodes_few)

pub bounds-sizes-first : goal.bounds-sizes-first
bounds-sizes-first c =
    let inner = c.if-is_leaf.ensures in
    omega (arith, c.node_small-first.ensures, (left_above c.requires.0 c.args.j c.requires.1 inner).1, c.requires.0.nodes_few, c.requires.2.places)

pub offset_bounds-sizes-right : goal.offset_bounds-sizes-right
offset_bounds-sizes-right c =
    let inner = c.if-is_leaf.ensures in
    omega (arith, c.node_small-right.ensures, (right_above c.requires.0 c.args.j c.requires.1 inner).1, c.requires.0.nodes_few)

pub bounds-sizes-right : goal.bounds-sizes-right
bounds-sizes-right c =
    let inner = c.if-is_leaf.ensures in
    omega (arith, c.node_small-right.ensures, (right_above c.requires.0 c.args.j c.requires.1 inner).1, c.requires.0.nodes_few, c.requires.2.places)

pub overflow_add-result : goal.overflow_add-result
overflow_add-result c =
    let inner = c.if-is_leaf.ensures in
    let both = total c.requires.0 c.args.j c.requires.1 inner c.args.sizes.now c.requires.2 c.node_small-first.ensures c.node_small-right.ensures in
    omega (arith, c.from.ensures, c.from-2.ensures, both, few_below c.requires.0.shape c.args.j, c.requires.0.few)

pub returns : goal.returns
returns c =
    let inner = c.if-is_leaf.ensures in
    let both = total c.requires.0 c.args.j c.requires.1 inner c.args.sizes.now c.requires.2 c.node_small-first.ensures c.node_small-right.ensures in
    omega (arith, c.from.ensures, c.from-2.ensures, both)
