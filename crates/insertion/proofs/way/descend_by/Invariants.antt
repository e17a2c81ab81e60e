-- `insertion::way::descend_by` meets its contract: what is left to do comes to the whole (`Down`), and the node's number rises below their
-- count.
use Prim.Native.Nat.{◌-◌}
use Rattle.segment.specs.Stored.{samples_of}
use Rattle.insertion.proofs.Down.{GoingDown}
use Rattle.insertion.proofs.way.descend_by.Given as goal

abbrev pub invariant-loop-child : goal.invariant-loop-child
invariant-loop-child l = GoingDown l.initial.nodes l.count (samples_of l.trace.trace.now) l.nodes l.at

abbrev pub decreases-loop-child : goal.decreases-loop-child
decreases-loop-child l = l.count - l.at
