-- `sheet_blocks::zeros::spare_zero` meets its contract. The loop's invariant: the bytes behind cells are 0 in all these blocks exactly if
-- they are in those from `number` on.
use mathlib.Core.Path.{◌≡◌}
use Rattle.dstree.specs.Sheet.{are_zero}
use Rattle.sheet_blocks.specs.Blocks.{spare_between}
use Rattle.sheet_blocks.proofs.zeros.spare_zero.Given as goal

abbrev pub invariant-loop-number : goal.invariant-loop-number
invariant-loop-number l = are_zero (spare_between l.size l.sheet l.from l.to) ≡ are_zero (spare_between l.size l.sheet l.number l.to)
