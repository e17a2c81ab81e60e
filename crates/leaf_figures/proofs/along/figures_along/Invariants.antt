-- `leaf_figures::along::figures_along` meets its contract: what is taken is what the first traces of the list give.
use Rattle.std.specs.Prelude.{None}
use mathlib.Core.Path.{◌≡◌}
use mathlib.Core.List.{foldl}
use lib.ListN.{take}
use Rattle.dstree.specs.Figures.{run}
use Rattle.leaf_figures.specs.Sides.{or_none, SmallFigures}
use Rattle.leaf_figures.proofs.Taken.{taking_at}
use Rattle.leaf_figures.proofs.along.figures_along.Given as goal

abbrev pub invariant-loop-number : goal.invariant-loop-number
invariant-loop-number l =
    (l.f ≡ foldl (taking_at l.rows.traces.samples.now l.rows.traces.n (run l.on.first l.on.last)) None (take l.number-index l.list)) × SmallFigures (or_none l.f)
