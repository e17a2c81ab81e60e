-- `banding::judging::are_edges` meets its contract: those from the edge before on rise exactly if all do.
use mathlib.Core.Path.{◌≡◌}
use Prim.Native.Nat.{◌-◌}
use lib.ListN.{drop}
use Rattle.dstree.specs.WellFormed.{rising}
use Rattle.banding.proofs.judging.are_edges.Given as goal

abbrev pub invariant-loop-i : goal.invariant-loop-i
invariant-loop-i l = rising l.edges ≡ rising (drop (l.i - 1) l.edges)
