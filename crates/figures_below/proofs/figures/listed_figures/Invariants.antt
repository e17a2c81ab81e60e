-- `figures_below::figures::listed_figures` meets its contract: what is taken, and what the rest of the list takes, is what all of it takes.
use Rattle.std.specs.Prelude.{None}
use mathlib.Core.Path.{◌≡◌}
use mathlib.Core.List.{foldl}
use lib.ListN.{drop}
use Rattle.dstree.specs.Figures.{run}
use Rattle.leaf_figures.proofs.Taken.{taking_at}
use Rattle.figures_below.proofs.figures.listed_figures.Given as goal

abbrev pub invariant-loop-t : goal.invariant-loop-t
invariant-loop-t l =
    foldl (taking_at l.samples l.n (run l.first l.last)) l.f (drop l.t-index l.list) ≡ foldl (taking_at l.samples l.n (run l.first l.last)) None l.list
