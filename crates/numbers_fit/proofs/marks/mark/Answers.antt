-- `numbers_fit::marks::mark` meets its contract: a number whose place is not 0 was met before, and a place that is 0 becomes 1.
use mathlib.Core.Path.{sym}
use native.Mathlib.Omega.{arith}
use Rattle.integer.proofs.Tests.{clash}
use Rattle.numbers_fit.proofs.Growth.{grown_one, met_again}
use Rattle.numbers_fit.proofs.marks.mark.Goals as goal

pub returns-then-marks-number-gt0 : goal.returns-then-marks-number-gt0
returns-then-marks-number-gt0 g c =
    record { new = λ e. clash (sym e); old = λ _. met_again c.args.marks.now c.args.number (omega arith) (omega arith) }

pub returns : goal.returns
returns g c =
    record { new = λ _. grown_one c.args.marks.now c.args.number (omega arith) (omega arith); old = λ e. clash e }
