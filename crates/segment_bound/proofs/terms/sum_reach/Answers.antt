-- `segment_bound::terms::sum_reach` meets its contract: the distance to a range of one number is that to the number.
use mathlib.Core.Path.{◌≡◌, ap₂, ◌∙◌}
use Prim.Native.Nat.{max}
use mir.Facts.{to_z-of_z}
use lib.IntN.{ℤ, nat_abs, ◌-ℤ◌}
use Rattle.segment.specs.Terms.{sum_gap}
use Rattle.segment.specs.Upper.{sum_reach}
use Rattle.segment.proofs.Upper.{point_gap, apart_turned}
use Rattle.segment_bound.proofs.terms.sum_reach.Goals as goal

one_number : (t x : ℤ) → sum_gap t x x ≡ nat_abs (t -ℤ x)
one_number t x = point_gap x t ∙ apart_turned t x

pub returns : goal.returns
unfolding sum_reach
returns c =
    c.max.ensures
    ∙ ap₂ max
    (c.sum_gap.ensures ∙ rw (to_z-of_z c.ranges.t, to_z-of_z c.ranges.least) (one_number c.args.t c.args.least))
    (c.sum_gap-2.ensures ∙ rw (to_z-of_z c.ranges.t, to_z-of_z c.ranges.greatest) (one_number c.args.t c.args.greatest))
