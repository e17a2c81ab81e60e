-- `checking::sizes::fill_sizes` meets its contract: from the last node down, each has its size.
use mathlib.Core.Path.{◌≡◌, sym, subst}
use Prim.Native.Nat.{ℕ, ◌+◌, ◌-◌}
use native.Mathlib.Omega.{arith}
use lib.ListN.{set}
use Rattle.dstree.specs.Node.{Tree}
use Rattle.dstree.proofs.BelowOnce.{few_below}
use Rattle.tables.specs.Nodes.{tree_by}
use Rattle.checking.specs.Laid.{SizesLaid}
use Rattle.tables.proofs.ByKind.{size_is}
use Rattle.checking.proofs.Sizing.{sized_none, sized_more}
use Rattle.checking.proofs.sizes.fill_sizes.Goals as goal

pub loop-j-init : goal.loop-j-init
loop-j-init c =
    sized_none (tree_by c.args.nodes.now c.args.links.now c.args.k c.args.m) c.args.sizes.now c.args.m
    (omega arith)
    (omega (arith, size_is c.requires))

pub node_size-size-requires : goal.node_size-size-requires
node_size-size-requires c =
    let again : c.loop-j.j - 1 + 1 ≡ c.loop-j.j = omega (arith, c.loop-j-test.true) in (
      c.requires,
      omega arith,
      subst (SizesLaid (tree_by c.args.nodes.now c.args.links.now c.args.k c.args.m) c.loop-j.sizes) (sym again) c.loop-j.invariant,
    )

pub overflow_cast-sizes : goal.overflow_cast-sizes
overflow_cast-sizes c = omega (arith, c.node_size-size.ensures, few_below c.requires.shape (c.loop-j.j - 1), c.requires.few)

pub offset_bounds-sizes-j : goal.offset_bounds-sizes-j
offset_bounds-sizes-j c = omega (arith, c.requires.nodes_few, c.loop-j-test.true)

pub bounds-sizes-j : goal.bounds-sizes-j
bounds-sizes-j c = omega (arith, c.requires.nodes_few, c.loop-j-test.true, c.loop-j.invariant.places)

pub loop-j-smaller : goal.loop-j-smaller
loop-j-smaller c = omega (arith, c.loop-j-test.true)

pub loop-j-preserved : goal.loop-j-preserved
loop-j-preserved c =
    let l = c.loop-j in
    let tree : Tree = tree_by c.args.nodes.now c.args.links.now c.args.k c.args.m in
    let j = l.j - 1 in
    let again : j + 1 ≡ l.j = omega (arith, c.loop-j-test.true) in
    subst (λ (x : ℕ). SizesLaid tree (set l.sizes j x) j) (sym c.node_size-size.ensures)
    (sized_more tree l.sizes j (omega (arith, c.requires.nodes_few, c.loop-j-test.true, l.invariant.places))
    (subst (SizesLaid tree l.sizes) (sym again) l.invariant))

pub returns : goal.returns
returns c =
    let l = c.loop-j in
    let z : l.j ≡ 0 = omega arith in
    subst (SizesLaid (tree_by c.args.nodes.now c.args.links.now c.args.k c.args.m) l.sizes) z l.invariant
