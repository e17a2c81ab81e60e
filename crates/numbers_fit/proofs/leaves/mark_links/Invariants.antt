-- `numbers_fit::leaves::mark_links` meets its contract. The loop's invariant: the links passed are marked.
use Rattle.numbers_fit.specs.Marks.{LinksMarked}
use Rattle.numbers_fit.proofs.leaves.mark_links.Given as goal

abbrev pub invariant-loop-i : goal.invariant-loop-i
invariant-loop-i l = LinksMarked l.links l.i l.initial.marks l.marks
