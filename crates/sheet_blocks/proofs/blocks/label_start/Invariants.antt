-- `sheet_blocks::blocks::label_start` meets its contract. The loop's invariant: block 0 and the blocks before `number` come before the
-- labels.
use mathlib.Core.Path.{◌≡◌}
use Prim.Native.Nat.{◌+◌}
use Rattle.dstree.specs.Sheet.{before_labels}
use Rattle.sheet_blocks.specs.Blocks.{later_blocks, label_start}
use Rattle.sheet_blocks.proofs.blocks.label_start.Given as goal

abbrev pub invariant-loop-number : goal.invariant-loop-number
invariant-loop-number l = label_start l.sheet ≡ l.number + before_labels (later_blocks l.sheet l.number)
