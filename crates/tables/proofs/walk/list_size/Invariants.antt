-- `tables::walk::list_size` meets its contract: what is counted and the numbers that are still to come make the list's length. The
-- links rise.
use mathlib.Core.Path.{◌≡◌}
use Prim.Native.Nat.{◌+◌, ◌-◌, ◌≤◌}
use lib.ListN.{length}
use Rattle.tables.specs.Walk.{numbers_of}
use Rattle.tables.proofs.Listed.{met_from}
use Rattle.tables.proofs.walk.list_size.Given as goal

abbrev pub invariant-loop-t : goal.invariant-loop-t
invariant-loop-t l =
    (l.t ≤ l.k) × (l.count ≤ l.t) × (l.count + length (met_from l.links l.k l.t) ≡ length (numbers_of l.links l.k l.head))

abbrev pub decreases-loop-t : goal.decreases-loop-t
decreases-loop-t l = l.k - l.t
