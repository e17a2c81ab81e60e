-- `sheet::check::check_of` meets its contract: the columns are those of the rows from `row` on. The measure is how many are left.
use Prim.Native.Nat.{◌≤◌}
use Rattle.sheet.proofs.Columns.{RowsTaken}
use Rattle.sheet.proofs.check.check_of.Given as goal

abbrev pub invariant-loop-row : goal.invariant-loop-row
invariant-loop-row l = (l.row ≤ 7) × RowsTaken l.block l.row l.sums l.later
