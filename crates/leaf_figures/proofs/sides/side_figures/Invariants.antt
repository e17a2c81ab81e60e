-- `leaf_figures::sides::side_figures` meets its contract: what is taken, and what the rest of the walk takes, is what all of the walk
-- takes. The links rise, and the measure is how far the walk is from k.
use Rattle.std.specs.Prelude.{None}
use mathlib.Core.Path.{◌≡◌}
use mathlib.Core.List.{foldl}
use Prim.Native.Nat.{◌-◌, ◌≤◌}
use Rattle.dstree.specs.Figures.{run}
use Rattle.tables.specs.Walk.{stored_in, numbers_of}
use Rattle.tables.proofs.Listed.{met_from}
use Rattle.leaf_figures.specs.Sides.{or_none, SmallFigures}
use Rattle.leaf_figures.proofs.Taken.{side_taking}
use Rattle.leaf_figures.proofs.sides.side_figures.Given as goal

abbrev pub invariant-loop-t : goal.invariant-loop-t
invariant-loop-t l =
    (l.t ≤ l.leaf.k) × (foldl (side_taking (stored_in l.leaf.samples.now l.leaf.n l.leaf.k) (run l.on.first l.on.last) l.marks l.mark) l.f (met_from l.leaf.links.now l.leaf.k l.t)
    ≡ foldl (side_taking (stored_in l.leaf.samples.now l.leaf.n l.leaf.k) (run l.on.first l.on.last) l.marks l.mark) None (numbers_of l.leaf.links.now l.leaf.k l.leaf.head))
    × SmallFigures (or_none l.f)

abbrev pub decreases-loop-t : goal.decreases-loop-t
decreases-loop-t l = l.leaf.k - l.t
