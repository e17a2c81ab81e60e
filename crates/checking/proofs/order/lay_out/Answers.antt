-- `checking::order::lay_out` meets its contract: node after node is laid (`Laying`).
use mathlib.Core.Path.{◌≡◌, subst}
use Prim.Native.Nat.{ℕ}
use native.Mathlib.Omega.{arith}
use lib.ListN.{length}
use Rattle.dstree.specs.Node.{Tree}
use Rattle.tables.specs.Nodes.{tree_by}
use Rattle.checking.specs.Laid.{LaidTo}
use Rattle.tables.proofs.ByKind.{size_is}
use Rattle.checking.proofs.Laying.{laid_none, laid_out}
use Rattle.checking.proofs.order.lay_out.Goals as goal

pub bounds-starts-0 : goal.bounds-starts-0
bounds-starts-0 c = omega arith

pub loop-j-init : goal.loop-j-init
loop-j-init c =
    laid_none c.requires.0.shape c.args.starts.now c.args.order.now (omega arith) (omega arith)

pub lay_node-requires : goal.lay_node-requires
lay_node-requires c = (c.requires.0, c.loop-j-test.true, c.requires.1, c.loop-j.invariant)

pub loop-j-preserved : goal.loop-j-preserved
loop-j-preserved c = c.lay_node.ensures

pub returns : goal.returns
returns c =
    let l = c.loop-j in
    let tree : Tree = tree_by c.args.nodes.now c.args.links.now c.args.k c.args.m in
    let all : l.j ≡ length tree = omega (arith, size_is c.requires.0) in
    laid_out c.requires.0.shape (subst (λ (x : ℕ). LaidTo tree x l.starts l.order) all l.invariant) c.requires.1 c.requires.0.few
