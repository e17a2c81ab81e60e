-- `numbers_fit::leaves::mark_firsts` meets its contract. The loop's invariant: the first numbers of the leaves passed are traces' numbers,
-- and are marked.
use Rattle.numbers_fit.specs.Tests.{first_at}
use Rattle.numbers_fit.proofs.Taking.{Marked}
use Rattle.numbers_fit.proofs.leaves.mark_firsts.Given as goal

abbrev pub invariant-loop-j : goal.invariant-loop-j
invariant-loop-j l = Marked (first_at l.nodes) l.k l.initial.marks l.marks l.j
