-- The least and greatest figure that a test compares, from the least and greatest sum and scatter of some traces: the sums, and the floor
-- roots of the scatters.
use mathlib.Core.Path.{◌≡◌, sym, ap, ◌∙◌}
use mathlib.Core.List.{List, map}
use lib.IntN.{pos}
use Rattle.integer.specs.Words.{least_ℤ, greatest_ℤ}
use Rattle.segment.specs.Roots.{floor_root}
use Rattle.dstree.specs.Measures.{Trace}
use Rattle.dstree.specs.Figures.{Run}
use Rattle.dstree.specs.Node.{Segment, by_sum, by_scatter, figure_of}
use Rattle.dstree.specs.Adding.{segment_of}
use Rattle.dstree.proofs.Deviations.{least_deviation, greatest_deviation}
use Rattle.leaf_figures.specs.Sides.{segment_by}
use Rattle.leaf_figures.specs.declared.sides.SideRange.{SideRange}

module _ (traces : List Trace) (on : Run) (f : SideRange) (e : segment_by on.last f ≡ segment_of traces on) where
  pub least_sum_is : f.least_sum ≡ least_ℤ (map (figure_of by_sum on) traces)
  unfolding segment_of figure_of
  least_sum_is = ap (λ (s : Segment). s.least_sum) e

  pub greatest_sum_is : f.greatest_sum ≡ greatest_ℤ (map (figure_of by_sum on) traces)
  unfolding segment_of figure_of
  greatest_sum_is = ap (λ (s : Segment). s.greatest_sum) e

  pub least_root_is : pos (floor_root f.least_scatter) ≡ least_ℤ (map (figure_of by_scatter on) traces)
  unfolding segment_of
  least_root_is = ap (λ (s : Segment). pos (floor_root s.least_scatter)) e ∙ sym (least_deviation on traces)

  pub greatest_root_is : pos (floor_root f.greatest_scatter) ≡ greatest_ℤ (map (figure_of by_scatter on) traces)
  unfolding segment_of
  greatest_root_is = ap (λ (s : Segment). pos (floor_root s.greatest_scatter)) e ∙ sym (greatest_deviation on traces)
