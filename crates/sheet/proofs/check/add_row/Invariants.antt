-- `sheet::check::add_row` meets its contract: after j turns the first j columns have their bytes, and their sums as they were.
use mathlib.Core.Path.{◌≡◌}
use lib.ListN.{length, take}
use Rattle.sheet.specs.Columns.{columns, added_up}
use Rattle.sheet.proofs.check.add_row.Given as goal

abbrev pub invariant-loop-j : goal.invariant-loop-j
invariant-loop-j l =
    (l.sums ≡ added_up l.initial.sums (take l.j l.row))
    × (l.later ≡ added_up l.initial.later (take l.j l.initial.sums))
    × (length l.sums ≡ columns)
    × (length l.later ≡ columns)
