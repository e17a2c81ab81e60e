-- `tables::runs::is_left` meets its contract: by the flag, the scatter's root against the threshold or the sum, doubled.
use mathlib.Core.Path.{◌≡◌, ap, ap₂, ◌∙◌}
use native.Mathlib.Omega.{arith}
use lib.IntN.{ℤ, pos, ◌*ℤ◌}
use lib.Signed.{le_z}
use mir.Syntax.{w64}
use mir.Val.{SFits}
use mir.Facts.{to_z-of_z}
use Rattle.integer.proofs.Order.{nat_abs_mul}
use Rattle.integer.proofs.Width.{read, small}
use Rattle.segment.specs.Roots.{floor_root}
use Rattle.tables.proofs.runs.is_left.Goals as goal

double_fits : (s : goal.Else-by_scatter) → SFits w64 (pos 2 *ℤ s.args.sum)
double_fits s = small (omega (arith, nat_abs_mul (pos 2) s.args.sum, s.requires))

double_is : (s : goal.Else-by_scatter) → read w64 (pos 2 *ℤ read w64 s.args.sum) ≡ pos 2 *ℤ s.args.sum
double_is s = ap (λ (z : ℤ). read w64 (pos 2 *ℤ z)) (to_z-of_z s.ranges.sum) ∙ to_z-of_z (double_fits s)

pub returns-then-by_scatter : goal.returns-then-by_scatter
returns-then-by_scatter c =
    rw c.if-by_scatter.true (c.twice_root_within.ensures ∙ ap (le_z (pos 2 *ℤ pos (floor_root c.args.scatter))) (to_z-of_z c.ranges.threshold))

pub overflow_mul-result : goal.overflow_mul-result
overflow_mul-result c = rw (to_z-of_z {w = w64} c.ranges.sum) (double_fits c)

pub returns : goal.returns
returns c = rw c.if-by_scatter.false (ap₂ le_z (double_is c) (to_z-of_z c.ranges.threshold))
