-- `sheet_blocks::blocks::first_torn` meets its contract. The loop's invariant: what the blocks from the cursor on show is what all blocks
-- show.
use mathlib.Core.Path.{◌≡◌}
use Prim.Native.Nat.{◌-◌, ◌≤◌}
use Rattle.dstree.specs.Refusals.{first_of}
use Rattle.dstree.specs.Sheet.{blocks_in, torn_conditions}
use Rattle.sheet.specs.Formats.{format_by}
use Rattle.sheet_blocks.specs.Blocks.{later_blocks, kind_before}
use Rattle.sheet_blocks.proofs.blocks.first_torn.Given as goal

abbrev pub invariant-loop-cursor : goal.invariant-loop-cursor
invariant-loop-cursor l =
    (l.cursor.number ≤ l.count) ×
    (first_of (torn_conditions (format_by l.format) 0 0 (blocks_in l.sheet))
    ≡ first_of (torn_conditions (format_by l.format) (kind_before l.sheet l.cursor.number) l.cursor.number (later_blocks l.sheet l.cursor.number)))

abbrev pub decreases-loop-cursor : goal.decreases-loop-cursor
decreases-loop-cursor l = l.count - l.cursor.number
