-- `heap::sifting::rise` meets its contract: `Rise` is the invariant, and the hole's place the measure.
use Rattle.heap.proofs.Rising.{Rise}
use Rattle.heap.proofs.sifting.rise.Given as goal

abbrev pub invariant-loop-at : goal.invariant-loop-at
invariant-loop-at l = Rise l.n l.key l.at l.initial.s l.s

abbrev pub decreases-loop-at : goal.decreases-loop-at
decreases-loop-at l = l.at
