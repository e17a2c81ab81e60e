-- `insertion::widening::widen_segment` meets its contract: the two ranges are widened by the run's sum and scatter, and the four places
-- make the widened segment (`Widened`).
use mathlib.Core.Path.{◌≡◌, ap, ◌∙◌}
use Prim.Native.Nat.{ℕ, ◌≤◌, ◌+◌, ◌*◌}
use native.Mathlib.Omega.{arith}
use lib.IntN.{pos}
use mir.Syntax.{w64}
use mir.Val.{to_z}
use mir.Facts.{to_z-of_z}
use Rattle.integer.proofs.Width.{read, small}
use Rattle.segment.specs.Stored.{samples_of}
use Rattle.segment.proofs.Stored.{samples_length}
use Rattle.dstree.specs.Measures.{most_samples}
use Rattle.dstree.specs.Figures.{run, width, sum_on, scatter_on}
use Rattle.prefixes.proofs.Cut.{sum_most_lem, scatter_most_lem}
use Rattle.insertion.specs.Widening.{range_with, end_in}
use Rattle.insertion.proofs.Widened.{widened_stored}
use Rattle.insertion.proofs.widening.widen_segment.Goals as goal

pub overflow_cast-scatter : goal.overflow_cast-scatter
overflow_cast-scatter c =
    let inside = c.requires.2.on in
    let narrow : width (run c.args.first c.small_at-end.result) ≤ most_samples =
    omega (arith, c.small_at-end.ensures, inside.from_1, inside.to_n, c.args.trace.now.summed.few, samples_length c.args.trace.now.trace.now) in
    small (omega (arith, scatter_most_lem narrow c.figures_on-f.ensures.size.1))

-- a narrow run has figures with a sign's room
pub returns : goal.returns
returns c =
    let inside = c.requires.2.on in
    let narrow : width (run c.args.first c.small_at-end.result) ≤ most_samples =
    omega (arith, c.small_at-end.ensures, inside.from_1, inside.to_n, c.args.trace.now.summed.few, samples_length c.args.trace.now.trace.now) in
    let a = c.args in
    let r = a.«record».now in
    let x = samples_of a.trace.now.trace.now in
    let p : ℕ = 7 + a.i * 5 in
    let end : c.small_at-end.result ≡ end_in r a.i = c.small_at-end.ensures in
    let g = c.figures_on-f.result in
    let sum : read w64 g.sum ≡ sum_on (run a.first (end_in r a.i)) x =
    to_z-of_z (small {w = w64} {z = g.sum} (omega (arith, sum_most_lem narrow c.figures_on-f.ensures.size.0)))
    ∙ (c.figures_on-f.ensures.sum ∙ ap (λ (last : ℕ). sum_on (run a.first last) x) end) in
    let scatter : to_z w64 g.scatter ≡ pos (scatter_on (run a.first (end_in r a.i)) x) =
    to_z-of_z (small {w = w64} {z = pos g.scatter} (omega (arith, scatter_most_lem narrow c.figures_on-f.ensures.size.1)))
    ∙ ap pos (c.figures_on-f.ensures.scatter ∙ ap (λ (last : ℕ). scatter_on (run a.first last) x) end) in
    let sums : c.widen_range.new.record ≡ range_with r (p + 1) (sum_on (run a.first (end_in r a.i)) x) =
    c.widen_range.ensures ∙ ap (range_with r (p + 1)) sum in
    c.widen_range-2.ensures
    ∙ (rw (sums, scatter) (widened_stored r a.i a.first _ (omega (arith, c.args.trace.now.summed.few, samples_length c.args.trace.now.trace.now)) c.requires.0 c.requires.1 c.requires.2
    x))
