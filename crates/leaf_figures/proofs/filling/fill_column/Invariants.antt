-- `leaf_figures::filling::fill_column` meets its contract: after p turns the first p figures of the column are right.
use mathlib.Core.Path.{◌≡◌}
use lib.ListN.{length}
use Rattle.leaf_figures.specs.Rows.{FirstRows}
use Rattle.leaf_figures.proofs.filling.fill_column.Given as goal

abbrev pub invariant-loop-p : goal.invariant-loop-p
invariant-loop-p l = (length l.column.figures ≡ 65) × FirstRows l.traces l.on l.column.figures l.p
