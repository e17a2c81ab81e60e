-- `splitting::lists::first_on_side` meets its contract: no trace that was passed is on the side, so that the first of the side is still to
-- come.
use mathlib.Core.Path.{◌≡◌}
use Prim.Native.Nat.{◌-◌, ◌≤◌}
use lib.ListN.{get_or}
use Rattle.tables.specs.Walk.{numbers_of}
use Rattle.leaf_figures.specs.Sides.{marked}
use Rattle.tables.proofs.Listed.{met_from}
use Rattle.splitting.proofs.lists.first_on_side.Given as goal

abbrev pub invariant-loop-t : goal.invariant-loop-t
invariant-loop-t l = (l.t ≤ l.k) × (get_or (marked l.marks l.mark (met_from l.links l.k l.t)) 0 l.k ≡ get_or (marked l.marks l.mark (numbers_of l.links l.k l.head)) 0 l.k)

abbrev pub decreases-loop-t : goal.decreases-loop-t
decreases-loop-t l = l.k - l.t
