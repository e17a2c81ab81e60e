-- `splitting::lists::leaf_longer` meets its contract: what is seen and what is still to come make the list. The links rise, so that no more
-- is seen than lies below the place where the walk stands, and what is left to k falls.
use mathlib.Core.Path.{◌≡◌}
use Prim.Native.Nat.{◌+◌, ◌-◌, ◌≤◌}
use lib.ListN.{length}
use Rattle.tables.specs.Walk.{numbers_of}
use Rattle.tables.proofs.Listed.{met_from}
use Rattle.splitting.proofs.lists.leaf_longer.Given as goal

abbrev pub invariant-loop-t : goal.invariant-loop-t
invariant-loop-t l = (l.t ≤ l.k) × (l.seen ≤ l.t) × (l.seen + length (met_from l.links l.k l.t) ≡ length (numbers_of l.links l.k l.head))

abbrev pub decreases-loop-t : goal.decreases-loop-t
decreases-loop-t l = l.k - l.t
