-- `tables::runs::goes_left` meets its contract: the trace's figures on the run are what the test compares.
use Rattle.std.specs.Prelude.{if◌then◌else◌}
use mathlib.Core.Path.{◌≡◌, ap₂, ◌∙◌}
use native.Mathlib.Omega.{arith}
use Prim.Native.Nat.{◌≤◌}
use lib.IntN.{ℤ, pos, nat_abs, ◌*ℤ◌}
use lib.Signed.{le_z}
use mir.Syntax.{w64}
use mir.Facts.{to_z-of_z}
use Rattle.integer.proofs.Width.{small, read}
use Rattle.segment.specs.Limits.{sum_most}
use Rattle.segment.specs.Stored.{samples_of}
use Rattle.segment.specs.Roots.{floor_root}
use Rattle.dstree.specs.Measures.{most_samples}
use Rattle.tables.proofs.Compared.{left_is}
use Rattle.tables.proofs.runs.goes_left.Goals as goal

-- the sum as it is handed on
sum_read : (s : ℤ) → nat_abs s ≤ sum_most most_samples → read w64 s ≡ s
sum_read s h = to_z-of_z (small {w = w64} (omega arith))

pub figures_on-own-requires : goal.figures_on-own-requires
figures_on-own-requires c = c.requires

pub is_left-requires : goal.is_left-requires
is_left-requires c =
    let g = c.figures_on-own in
    rw (sum_read g.result.sum g.ensures.sum.1) (omega (arith, g.ensures.sum.1))

pub returns : goal.returns
returns c =
    let a = c.args in
    let g = c.figures_on-own in
    c.is_left.ensures
    ∙ ap₂ (λ (s t : ℤ). le_z (pos 2 *ℤ (if a.by_scatter then pos (floor_root g.result.scatter) else s)) t) (sum_read g.result.sum g.ensures.sum.1)
    (to_z-of_z c.ranges.threshold)
    ∙ left_is a.first a.last (samples_of a.trace.now) g.ensures.sum.0 g.ensures.scatter.0 a.by_scatter a.threshold
