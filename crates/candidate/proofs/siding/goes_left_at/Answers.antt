-- `candidate::siding::goes_left_at` meets its contract: the trace's figures, from the table or its samples, are what the test compares.
use Rattle.std.specs.Prelude.{if◌then◌else◌}
use mathlib.Core.Path.{◌≡◌, ap₂, ◌∙◌}
use native.Mathlib.Omega.{arith}
use lib.IntN.{ℤ, nat_abs, pos, ◌*ℤ◌}
use lib.Signed.{le_z}
use mir.Syntax.{w64}
use mir.Facts.{to_z-of_z}
use Rattle.integer.proofs.Width.{small, read}
use Prim.Native.Nat.{◌≤◌}
use Rattle.segment.specs.Limits.{sum_most}
use Rattle.dstree.specs.Measures.{most_samples}
use Rattle.segment.specs.Roots.{floor_root}
use Rattle.tables.specs.View.{trace_in}
use Rattle.tables.proofs.Compared.{left_is}
use Rattle.candidate.proofs.siding.goes_left_at.Goals as goal

-- the sum as it is handed on
sum_read : (z : ℤ) → nat_abs z ≤ sum_most most_samples → read w64 z ≡ z
sum_read z h = to_z-of_z (small {w = w64} {z = z} (omega (arith, h)))

pub is_left-requires : goal.is_left-requires
is_left-requires c = rw (sum_read _ c.figures_at-own.ensures.sum_small) (omega (arith, c.figures_at-own.ensures.sum_small))

pub returns : goal.returns
returns c =
    let a = c.args in
    let g = c.figures_at-own in
    c.is_left.ensures
    ∙ ap₂ (λ (z t : ℤ). le_z (pos 2 *ℤ (if a.c.by_scatter then pos (floor_root g.result.scatter) else z)) t) (sum_read g.result.sum g.ensures.sum_small) (to_z-of_z c.ranges.threshold)
    ∙ left_is a.c.on.first a.c.on.last (trace_in a.samples.now a.n a.t) g.ensures.sum_is g.ensures.scatter_is a.c.by_scatter a.threshold
