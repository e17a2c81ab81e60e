-- `reading::leaf::read_leaf` meets its contract: what is listed so far and what the walk still meets give what the whole walk lists
-- (`Walked`), and so it is
-- with their number. The links rise, and the measure is how far the walk is from the count.
use mathlib.Core.Path.{◌≡◌}
use Prim.Native.Nat.{◌+◌, ◌-◌, ◌≤◌}
use lib.ListN.{length}
use Rattle.segment.specs.Stored.{samples_of}
use Rattle.tables.specs.Walk.{numbers_of}
use Rattle.tables.proofs.Listed.{met_from}
use Rattle.reading.proofs.Walked.{Walking}
use Rattle.reading.proofs.leaf.read_leaf.Given as goal

abbrev pub invariant-loop-t : goal.invariant-loop-t
invariant-loop-t l =
    (l.t ≤ l.count)
    × (l.traces ≤ l.t)
    × Walking l.samples l.n (samples_of l.query) l.links l.count l.k l.head l.listed l.initial.list l.list l.m l.t
    × (l.traces + length (met_from l.links l.count l.t) ≡ length (numbers_of l.links l.count l.head))

abbrev pub decreases-loop-t : goal.decreases-loop-t
decreases-loop-t l = l.count - l.t
