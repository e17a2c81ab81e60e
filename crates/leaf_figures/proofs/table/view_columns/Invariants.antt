-- `leaf_figures::table::view_columns` meets its contract: after f turns the first f views show the first f columns.
use Rattle.std.specs.Prelude.{map}
use mathlib.Core.Path.{◌≡◌}
use lib.ListN.{length, take}
use Rattle.leaf_figures.specs.Rows.{viewed}
use Rattle.leaf_figures.proofs.table.view_columns.Given as goal

abbrev pub invariant-loop-f : goal.invariant-loop-f
invariant-loop-f l = (length l.views ≡ 48) × (map viewed (take l.f l.views) ≡ take l.f l.columns)
