-- `splitting::lists::list_side` meets its contract: what is listed and the traces on the side that are still to come make the side. Each
-- trace that is met is written behind what is listed, and counts if it is on the side.
use mathlib.Core.Path.{◌≡◌}
use mathlib.Core.List.{◌++◌}
use Prim.Native.Nat.{◌-◌, ◌≤◌}
use lib.ListN.{length, take}
use Rattle.tables.specs.Walk.{numbers_of}
use Rattle.leaf_figures.specs.Sides.{marked}
use Rattle.tables.proofs.Listed.{met_from}
use Rattle.splitting.proofs.lists.list_side.Given as goal

abbrev pub invariant-loop-t : goal.invariant-loop-t
invariant-loop-t l = (l.t ≤ l.k) × (l.count ≤ l.t) × (length l.order ≡ 4096)
    × (take l.count l.order ++ marked l.marks l.mark (met_from l.links l.k l.t) ≡ marked l.marks l.mark (numbers_of l.links l.k l.head))

abbrev pub decreases-loop-t : goal.decreases-loop-t
decreases-loop-t l = l.k - l.t
