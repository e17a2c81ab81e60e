-- `numbers_fit::leaves::links_rise` meets its contract. The loop's invariant: how many of the links passed rise, and how many end a list.
use Rattle.numbers_fit.proofs.Taking.{Counted}
use Rattle.numbers_fit.proofs.leaves.links_rise.Given as goal

abbrev pub invariant-loop-i : goal.invariant-loop-i
invariant-loop-i l = Counted l.links l.k l.fit l.ends l.i
