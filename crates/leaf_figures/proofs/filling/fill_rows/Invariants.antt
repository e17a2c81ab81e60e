-- `leaf_figures::filling::fill_rows` meets its contract: each segment is inside, since the ends rise.
use Prim.Native.Nat.{◌≤◌}
use lib.ListN.{take, drop}
use Rattle.dstree.specs.Formed.{Rises}
use Rattle.leaf_figures.specs.Rows.{Columns}
use Rattle.leaf_figures.proofs.filling.fill_rows.Given as goal

abbrev pub invariant-loop-i : goal.invariant-loop-i
invariant-loop-i l = (1 ≤ l.first) × Rises l.traces.n l.first (drop l.i (take l.segments l.at)) × Columns l.traces l.columns
