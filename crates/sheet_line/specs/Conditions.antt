-- What the program refuses.
use Rattle.std.specs.Prelude.{ℕ, ◌||◌, List, [], ◌∷◌, ◌++◌, length, leb, ltb}
use Rattle.dstree.specs.Measures.{Measures}
use Rattle.dstree.specs.Refusals.{Condition, ◌refuses◌, short_table, empty, sheet_length}
use Rattle.dstree.specs.Sheet.{measures_in, count_in}
use Rattle.dstree.specs.SheetWidths.{sheet_conditions}
use Rattle.dstree.specs.Program.{program_most, most_bytes}
use Rattle.sheet_blocks.specs.Blocks.{block_at}

-- "with tables for n ≤ 64 and capacity ≤ 64; .. a larger n or capacity refusal 2"; "No earlier trace is refusal 6"
unfoldable pub small_conditions : Measures → ℕ → List Condition
small_conditions m count = (ltb program_most m.n || ltb program_most m.capacity) refuses short_table ∷ leb count 1 refuses empty ∷ []

-- "a longer input is refusal 8"; then what reading refuses of the sheet, then the program's own
unfoldable pub program_conditions : List ℕ → List Condition
program_conditions bytes =
    ltb most_bytes (length bytes) refuses sheet_length
    ∷ (sheet_conditions bytes ++ small_conditions (measures_in (block_at bytes 0)) (count_in (block_at bytes 0)))
