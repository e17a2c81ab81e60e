-- `nodes_fit::kept::ends_in` meets its contract. The loop's invariant: all ends of the parent are the child's exactly if what is left
-- of them is among what is left of the child's, of which there is as much.
use Prim.Native.Nat.{◌-◌}
use Rattle.nodes_fit.proofs.Ends.{Merged}
use Rattle.nodes_fit.proofs.kept.ends_in.Given as goal

abbrev pub invariant-loop-p : goal.invariant-loop-p
invariant-loop-p l = Merged l.child l.count l.parent l.many l.p l.i

abbrev pub decreases-loop-p : goal.decreases-loop-p
decreases-loop-p l = l.count - l.i
