-- `leaf_figures::spread::spread_along` meets its contract: the total, and the spread over the ends that are left, make the whole spread. 16
-- terms of 57 bits have at most 61.
use mathlib.Core.Path.{◌≡◌}
use Prim.Native.Nat.{◌+◌, ◌*◌, ◌^◌, ◌≤◌}
use lib.ListN.{take, drop}
use Rattle.dstree.specs.Adding.{spread}
use Rattle.dstree.specs.Formed.{Rises}
use Rattle.leaf_figures.specs.Rows.{all_traces}
use Rattle.leaf_figures.proofs.Totals.{spread_from}
use Rattle.leaf_figures.proofs.spread.spread_along.Given as goal

abbrev pub invariant-loop-i : goal.invariant-loop-i
invariant-loop-i l =
    (1 ≤ l.first)
    × (l.total + spread_from l.first (drop l.i (take l.segments l.at)) (all_traces l.rows.traces) ≡ spread (take l.segments l.at) (all_traces l.rows.traces))
    × (l.total ≤ 2 ^ 57 * l.i)
    × Rises l.rows.traces.n l.first (drop l.i (take l.segments l.at))
