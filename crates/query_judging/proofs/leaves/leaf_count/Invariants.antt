-- `query_judging::leaves::leaf_count` meets its contract: what is counted and what is still to be counted is all of it.
use mathlib.Core.Path.{◌≡◌}
use Prim.Native.Nat.{◌+◌, ◌-◌, ◌≤◌}
use Rattle.query_judging.specs.LeafCount.{leaf_count}
use Rattle.query_judging.proofs.leaves.leaf_count.Given as goal

abbrev pub invariant-loop-j : goal.invariant-loop-j
invariant-loop-j l = (l.total ≤ l.j) × (l.total + leaf_count l.nodes (l.m - l.j) l.j ≡ leaf_count l.nodes l.m 0)
