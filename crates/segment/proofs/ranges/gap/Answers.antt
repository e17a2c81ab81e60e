-- `segment::ranges::gap` meets its contract: it goes by the definition's tests.
use mathlib.Core.Path.{sym, ◌∙◌}
use mir.Facts.{to_z-of_z}
use Rattle.integer.proofs.Width.{read_test}
use Rattle.segment.specs.Terms.{sum_gap}
use Rattle.segment.proofs.ranges.gap.Goals as goal

pub returns-then-y-low : goal.returns-then-y-low
unfolding sum_gap
returns-then-y-low c =
    rw (sym (read_test c.ranges.y c.ranges.low) ∙ c.if-y-low.true)
    (c.abs_diff.ensures ∙ rw (to_z-of_z c.ranges.low, to_z-of_z c.ranges.y))

pub returns-then-high-y : goal.returns-then-high-y
unfolding sum_gap
returns-then-high-y c =
    rw (sym (read_test c.ranges.y c.ranges.low) ∙ c.if-y-low.false, sym (read_test c.ranges.high c.ranges.y) ∙ c.if-high-y.true)
    (c.abs_diff-then-high-y.ensures ∙ rw (to_z-of_z c.ranges.y, to_z-of_z c.ranges.high))

pub returns-else-high-y : goal.returns-else-high-y
unfolding sum_gap
returns-else-high-y c =
    rw (sym (read_test c.ranges.y c.ranges.low) ∙ c.if-y-low.false, sym (read_test c.ranges.high c.ranges.y) ∙ c.if-high-y.false)
