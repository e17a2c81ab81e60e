-- `sheet::check::weigh` meets its contract: the total so far is that of the columns passed.
use mathlib.Core.Path.{◌≡◌}
use Prim.Native.Nat.{◌+◌, ◌*◌, ◌≤◌}
use lib.ListN.{take}
use Rattle.integer.specs.Words.{total}
use Rattle.dstree.specs.Sheet.{weighted}
use Rattle.sheet.specs.Columns.{columns, column_weight}
use Rattle.sheet.proofs.check.weigh.Given as goal

abbrev pub invariant-loop-j : goal.invariant-loop-j
invariant-loop-j l =
    (l.j ≤ columns) × (l.total ≡ weighted 0 (take l.j l.sums) + columns * total (take l.j l.later)) × (l.total ≤ column_weight * l.j)
