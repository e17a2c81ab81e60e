-- `records_fit::figures::sum_threshold_fits` meets its contract: twice the limit of a sum, one side at a time.
use mathlib.Core.Path.{◌≡◌, sym, ◌∙◌}
use mathlib.Core.Bool.{true, false}
use Prim.Native.Nat.{◌*◌}
use lib.IntN.{pos}
use lib.Signed.{le_z}
use mir.Syntax.{w64}
use mir.ValLaws.{to_z-of_z}
use Rattle.segment.specs.Limits.{sample_most}
use Rattle.records_fit.proofs.Limits.{sum_threshold}
use Rattle.records_fit.proofs.figures.sum_threshold_fits.Goals as goal

pub returns-then-not-not_above : goal.returns-then-not-not_above
returns-then-not-not_above c =
    let a = c.args in
    let same = to_z-of_z w64 a.threshold c.ranges.threshold in
    let up_to : le_z a.threshold (pos (2 * (a.w * sample_most))) ≡ false = cc in
    sym (sum_threshold a.w a.threshold ∙ rw up_to)

pub returns : goal.returns
returns c =
    let a = c.args in
    let same = to_z-of_z w64 a.threshold c.ranges.threshold in
    let up_to : le_z a.threshold (pos (2 * (a.w * sample_most))) ≡ true = cc in
    c.not_below.ensures ∙ rw same (sym (sum_threshold a.w a.threshold ∙ rw up_to))
