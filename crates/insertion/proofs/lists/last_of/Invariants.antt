-- `insertion::lists::last_of` meets its contract: wherever the walk stands, the list from there on has the last of the whole one (`Chain`).
-- Links rise, so that what is above the place left to go falls.
use mathlib.Core.Path.{◌≡◌}
use Prim.Native.Nat.{◌-◌, ◌<◌}
use Rattle.integer.specs.Words.{last_of}
use Rattle.tables.specs.Walk.{behind_of}
use Rattle.tables.proofs.Listed.{met_from}
use Rattle.insertion.proofs.lists.last_of.Given as goal

abbrev pub invariant-loop-next : goal.invariant-loop-next
invariant-loop-next l = (l.t < l.k) × (l.next ≡ behind_of l.links l.k l.t) × (last_of (met_from l.links l.k l.t) ≡ last_of (met_from l.links l.k l.head))

abbrev pub decreases-loop-next : goal.decreases-loop-next
decreases-loop-next l = l.k - l.t
