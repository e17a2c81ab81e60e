-- What code compares with a threshold, from a trace's two figures on a run, is what the test compares.
use Rattle.std.specs.Prelude.{if◌then◌else◌}
use mathlib.Core.Path.{◌≡◌, ap}
use mathlib.Core.Bool.{Bool, true, false}
use Prim.Native.Nat.{ℕ}
use lib.IntN.{ℤ, pos, ◌*ℤ◌}
use lib.Signed.{le_z}
use Rattle.segment.specs.Roots.{floor_root}
use Rattle.dstree.specs.Measures.{Trace}
use Rattle.dstree.specs.Figures.{run, sum_on, scatter_on}
use Rattle.dstree.specs.Node.{figure_of, sends_left}
use Rattle.tables.specs.Runs.{test_by}

pub left_is : (first last : ℕ) (x : Trace) {sum : ℤ} {scatter : ℕ} → sum ≡ sum_on (run first last) x → scatter ≡ scatter_on (run first last) x
    → (by_scatter_lem : Bool) (t : ℤ) → le_z (pos 2 *ℤ (if by_scatter_lem then pos (floor_root scatter) else sum)) t ≡ sends_left (test_by first last by_scatter_lem t) x
unfolding sends_left figure_of
left_is first last x d e true t = ap (λ (v : ℕ). le_z (pos 2 *ℤ pos (floor_root v)) t) e
left_is first last x d e false t = ap (λ (s : ℤ). le_z (pos 2 *ℤ s) t) d
