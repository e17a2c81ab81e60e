-- `band_counts::nodes::count_nodes` meets its contract: before the first node nothing is counted, and each turn takes one node (`Turns`).
use mathlib.Core.Path.{◌≡◌}
use Prim.Native.Nat.{◌*◌, ◌-◌}
use lib.ListN.{length, drop}
use Rattle.segment.specs.Stored.{samples_of}
use Rattle.tables.specs.Nodes.{tree_by}
use Rattle.band_counts.specs.Counted.{CountedTo}
use Rattle.band_counts.proofs.nodes.count_nodes.Given as goal

abbrev pub invariant-loop-j : goal.invariant-loop-j
invariant-loop-j l =
    CountedTo (tree_by l.nodes l.links l.k l.m) (samples_of l.query.trace.now) l.edges l.j l.work l.list
    × (drop (2 * (length l.edges - 1)) l.list ≡ drop (2 * (length l.edges - 1)) l.initial.list)
    × (length l.work ≡ length l.initial.work) × (length l.list ≡ length l.initial.list)
