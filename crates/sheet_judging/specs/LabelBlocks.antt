-- The labels that the blocks of a sheet have room for, and what is refused of them.
use Rattle.std.specs.Prelude.{ℕ, ◌*◌, ◌-◌, ◌≤◌, ◌≡◌, Bool, not, ◌&&◌, ◌||◌, List, length, eqb}
use Rattle.dstree.specs.Labels.{are_zero_labels}
use Rattle.dstree.specs.Sheet.{label_cells, label_blocks_needed, label_blocks_in, labels_in_blocks}
use Rattle.sheet_blocks.specs.Blocks.{block_count, later_blocks, label_start}

-- the blocks of labels
abbrev pub label_blocks : List ℕ → List (List ℕ)
label_blocks bytes = label_blocks_in (later_blocks bytes 1)

-- if there are such blocks, so many labels stand in them
abbrev pub HaveRoom : List ℕ → ℕ → Type 0
HaveRoom bytes count = (label_start bytes ≡ block_count bytes → ⊥) → count ≤ (block_count bytes - label_start bytes) * label_cells.cells_per_block

-- 10: "A sheet has all its label blocks or none", and "a sheet whose label blocks together hold only zero labels is refused"
unfoldable pub are_bad : ℕ → List (List ℕ) → Bool
are_bad count blocks =
    not (eqb (length blocks) 0 || eqb (length blocks) (label_blocks_needed count))
    || (not (eqb (length blocks) 0) && are_zero_labels (labels_in_blocks count blocks))
