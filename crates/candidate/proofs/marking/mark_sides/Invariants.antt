-- `candidate::marking::mark_sides` meets its contract: what is marked, and what the rest of the walk marks, is what all of the walk
-- marks.
use mathlib.Core.Path.{◌≡◌}
use mathlib.Core.Bool.{Bool}
use mathlib.Core.List.{List, []}
use Prim.Native.Nat.{ℕ, ◌-◌, ◌≤◌}
use lib.IntN.{ℤ}
use lib.ListN.{length, get_or}
use Rattle.dstree.specs.Node.{sends_left}
use Rattle.tables.specs.Walk.{stored_in, numbers_of}
use Rattle.tables.proofs.Listed.{met_from}
use Rattle.tables.specs.Runs.{test_by}
use Rattle.candidate.specs.Marking.{marks_by}
use Rattle.candidate.proofs.marking.mark_sides.Given as goal

-- whether a trace goes left
abbrev pub left : List ℤ → ℕ → ℕ → ℕ → ℕ → Bool → ℤ → ℕ → Bool
left samples n k first last by_scatter threshold t = sends_left (test_by first last by_scatter threshold) (get_or (stored_in samples n k) t [])

abbrev pub invariant-loop-t : goal.invariant-loop-t
invariant-loop-t l =
    (l.t ≤ l.leaf.k)
    × (marks_by (left l.leaf.samples.now l.leaf.n l.leaf.k l.on.first l.on.last l.by_scatter l.threshold) l.marks (met_from l.leaf.links.now l.leaf.k l.t)
    ≡ marks_by (left l.leaf.samples.now l.leaf.n l.leaf.k l.on.first l.on.last l.by_scatter l.threshold) l.initial.marks (numbers_of l.leaf.links.now l.leaf.k l.leaf.head))
    × (length l.marks ≡ 4096)

abbrev pub decreases-loop-t : goal.decreases-loop-t
decreases-loop-t l = l.leaf.k - l.t
