-- `batch_leaves::read_for_all` meets its contract: the first records are read, the others are as they were (`Bests`).
use mathlib.Core.Path.{◌≡◌}
use mathlib.Core.List.{List, map}
use Prim.Native.Nat.{ℕ}
use lib.IntN.{ℤ}
use lib.ListN.{length}
use Rattle.dstree.specs.Matching.{Near}
use Rattle.tables.specs.View.{trace_in}
use Rattle.tables.specs.Walk.{numbers_of}
use Rattle.reading.specs.Nearest.{near_of}
use Rattle.batch_leaves.proofs.Bests.{Reading}
use Rattle.batch_leaves.proofs.read_for_all.Given as goal

-- the leaf's traces with their distances to query i
abbrev pub more : List ℤ → List ℕ → ℕ → ℕ → ℕ → List ℤ → ℕ → List Near
more samples links n count head queries i = map (near_of samples n (trace_in queries n i)) (numbers_of links count head)

abbrev pub invariant-loop-i : goal.invariant-loop-i
invariant-loop-i l =
    (length l.bests ≡ length l.initial.bests) × Reading l.leaves l.i (more l.samples l.links l.n l.count l.head l.queries) l.initial.bests l.bests
