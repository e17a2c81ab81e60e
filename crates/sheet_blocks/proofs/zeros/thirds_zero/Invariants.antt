-- `sheet_blocks::zeros::thirds_zero` meets its contract. The loop's invariant: byte 3 is 0 in all blocks exactly if it is in those from
-- the cursor on.
use mathlib.Core.Path.{◌≡◌}
use Prim.Native.Nat.{◌-◌, ◌≤◌}
use Rattle.dstree.specs.Sheet.{are_zero, thirds_in, blocks_in}
use Rattle.sheet_blocks.specs.Blocks.{later_blocks}
use Rattle.sheet_blocks.proofs.zeros.thirds_zero.Given as goal

abbrev pub invariant-loop-cursor : goal.invariant-loop-cursor
invariant-loop-cursor l =
    (l.cursor.number ≤ l.count) × (are_zero (thirds_in (blocks_in l.sheet)) ≡ are_zero (thirds_in (later_blocks l.sheet l.cursor.number)))

abbrev pub decreases-loop-cursor : goal.decreases-loop-cursor
decreases-loop-cursor l = l.count - l.cursor.number
