-- `numbers_fit::children::mark_all` meets its contract. The loop's invariant: the marks have grown by the children of the nodes passed.
use Rattle.numbers_fit.specs.Marks.{MarksGrown}
use Rattle.numbers_fit.specs.Tests.{children_of_first}
use Rattle.numbers_fit.proofs.children.mark_all.Given as goal

abbrev pub invariant-loop-j : goal.invariant-loop-j
invariant-loop-j l = MarksGrown l.initial.marks l.marks (children_of_first l.nodes l.j)
