-- `checking::sizes::fill_sizes` meets its contract: from the last node down, each has its size.
use Rattle.tables.specs.Nodes.{tree_by}
use Rattle.checking.specs.Laid.{SizesLaid}
use Rattle.checking.proofs.sizes.fill_sizes.Given as goal

abbrev pub invariant-loop-j : goal.invariant-loop-j
invariant-loop-j l = SizesLaid (tree_by l.nodes l.links l.k l.m) l.sizes l.j
