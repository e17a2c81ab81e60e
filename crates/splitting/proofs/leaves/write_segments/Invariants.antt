-- `splitting::leaves::write_segments` meets its contract: after i turns the first i segments are written (`Written`), and the others are
-- those of the ends that are left.
use mathlib.Core.Path.{◌≡◌}
use Prim.Native.Nat.{◌≤◌}
use lib.ListN.{take, drop}
use Rattle.dstree.specs.Adding.{segments_from}
use Rattle.dstree.specs.Formed.{Rises}
use Rattle.leaf_figures.specs.Sides.{side_traces}
use Rattle.splitting.specs.Leaves.{with_segments}
use Rattle.splitting.proofs.leaves.write_segments.Given as goal

abbrev pub invariant-loop-i : goal.invariant-loop-i
invariant-loop-i l =
    (1 ≤ l.first)
    × Rises l.leaf.n l.first (drop l.i (take l.count l.at))
    × (segments_from l.first (drop l.i (take l.count l.at)) (side_traces l.leaf l.marks l.mark) ≡ drop l.i (segments_from 1 (take l.count l.at) (side_traces l.leaf l.marks l.mark)))
    × (l.«record» ≡ with_segments l.initial.record (take l.i (segments_from 1 (take l.count l.at) (side_traces l.leaf l.marks l.mark))))
