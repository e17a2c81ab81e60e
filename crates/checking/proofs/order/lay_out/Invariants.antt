-- `checking::order::lay_out` meets its contract: node after node is laid (`Laying`).
use Rattle.tables.specs.Nodes.{tree_by}
use Rattle.checking.specs.Laid.{LaidTo}
use Rattle.checking.proofs.order.lay_out.Given as goal

abbrev pub invariant-loop-j : goal.invariant-loop-j
invariant-loop-j l = LaidTo (tree_by l.nodes l.links l.k l.m) l.j l.starts l.order
