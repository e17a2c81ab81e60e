-- `records_fit::figures::scatter_threshold_fits` meets its contract: from 0 to twice the limit of a sum.
use mathlib.Core.Path.{◌≡◌, sym, ◌∙◌}
use mathlib.Core.Bool.{true, false}
use lib.IntN.{pos}
use lib.Signed.{le_z}
use mir.Syntax.{w64}
use mir.ValLaws.{to_z-of_z}
use Rattle.records_fit.proofs.Limits.{scatter_threshold}
use Rattle.records_fit.proofs.figures.scatter_threshold_fits.Goals as goal

pub returns-then-not-in_order : goal.returns-then-not-in_order
returns-then-not-in_order c =
    let a = c.args in
    let same = to_z-of_z w64 a.threshold c.ranges.threshold in
    let from_zero : le_z (pos 0) a.threshold ≡ false = cc in
    sym (scatter_threshold a.w a.threshold ∙ rw from_zero)

pub returns : goal.returns
returns c =
    let a = c.args in
    let same = to_z-of_z w64 a.threshold c.ranges.threshold in
    let from_zero : le_z (pos 0) a.threshold ≡ true = cc in
    c.not_above.ensures ∙ rw same (sym (scatter_threshold a.w a.threshold ∙ rw from_zero))
