-- `band_counts::edges::reached` meets its contract: those that are counted, and those still to come that are reached, make all.
use mathlib.Core.Path.{◌≡◌}
use Prim.Native.Nat.{◌+◌, ◌≤◌}
use lib.ListN.{length, drop}
use Rattle.band_counts.specs.Reached.{edges_reached}
use Rattle.band_counts.proofs.edges.reached.Given as goal

abbrev pub invariant-loop-edge : goal.invariant-loop-edge
invariant-loop-edge l = (l.edge-index ≤ length l.edges) × (l.many + edges_reached (drop l.edge-index l.edges) l.figure ≡ edges_reached l.edges l.figure)
