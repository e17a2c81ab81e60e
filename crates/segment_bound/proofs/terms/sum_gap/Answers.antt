-- `segment_bound::terms::sum_gap` meets its contract: it goes by the definition's tests.
use mathlib.Core.Path.{sym, ◌∙◌}
use mir.Facts.{to_z-of_z}
use Rattle.integer.proofs.Width.{read_test}
use Rattle.segment.specs.Terms.{sum_gap}
use Rattle.segment_bound.proofs.terms.sum_gap.Goals as goal

pub returns-then-t-least : goal.returns-then-t-least
unfolding sum_gap
returns-then-t-least c =
    rw (sym (read_test c.ranges.t c.ranges.least) ∙ c.if-t-least.true) (c.abs_diff.ensures ∙ rw (to_z-of_z c.ranges.least, to_z-of_z c.ranges.t))

pub returns-then-greatest-t : goal.returns-then-greatest-t
unfolding sum_gap
returns-then-greatest-t c =
    rw (sym (read_test c.ranges.t c.ranges.least) ∙ c.if-t-least.false, sym (read_test c.ranges.greatest c.ranges.t) ∙ c.if-greatest-t.true)
    (c.abs_diff-then-greatest-t.ensures ∙ rw (to_z-of_z c.ranges.t, to_z-of_z c.ranges.greatest))

pub returns-else-greatest-t : goal.returns-else-greatest-t
unfolding sum_gap
returns-else-greatest-t c =
    rw (sym (read_test c.ranges.t c.ranges.least) ∙ c.if-t-least.false, sym (read_test c.ranges.greatest c.ranges.t) ∙ c.if-greatest-t.false)
