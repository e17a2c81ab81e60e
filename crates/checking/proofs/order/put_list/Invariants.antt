-- `checking::order::put_list` meets its contract: the first numbers stand in their places, the rest of the list is still to come, and
-- every other place is as it was.
use mathlib.Core.Path.{◌≡◌}
use Prim.Native.Nat.{◌-◌, ◌≤◌}
use lib.ListN.{length}
use Rattle.tables.specs.Walk.{numbers_of}
use Rattle.tables.proofs.Listed.{met_from}
use Rattle.checking.proofs.Put.{Putting}
use Rattle.checking.proofs.order.put_list.Given as goal

abbrev pub invariant-loop-t : goal.invariant-loop-t
invariant-loop-t l =
    (l.t ≤ l.k) × (length l.order ≡ 4096) × Putting l.initial.order l.order l.at (numbers_of l.links l.k l.head) l.place (met_from l.links l.k l.t)

abbrev pub decreases-loop-t : goal.decreases-loop-t
decreases-loop-t l = l.k - l.t
