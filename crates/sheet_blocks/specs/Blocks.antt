-- A sheet of whole blocks, each at its place.
use Rattle.std.specs.Prelude.{ℕ, zero, suc, ◌+◌, ◌*◌, ◌-◌, ◌/◌, ◌≤◌, ◌≡◌, false, length, take, drop}
use mathlib.Core.List.{List, ◌++◌, map, flatten}
use Rattle.dstree.specs.Sheet.{Format, block_size, part, pieces, carried_in, kind_in, before_labels, is_wrong_length, sample_blocks_needed}
use Rattle.dstree.specs.Sheet.{label_blocks_needed}

-- no wrong length (8): at least one block, nothing behind the last, and no more than the largest library has
abbrev pub InBlocks : List ℕ → Type 0
InBlocks bytes = is_wrong_length (length bytes) ≡ false

-- how many blocks a sheet has
abbrev pub block_count : List ℕ → ℕ
block_count bytes = length bytes / block_size

-- a block by its number
abbrev pub block_at : List ℕ → ℕ → List ℕ
block_at bytes number = part (number * block_size) block_size bytes

-- the blocks from one number on, before another
abbrev pub blocks_between : List ℕ → ℕ → ℕ → List (List ℕ)
blocks_between bytes from to = pieces block_size (to - from) (drop (from * block_size) bytes)

-- the blocks from a number on
abbrev pub later_blocks : List ℕ → ℕ → List (List ℕ)
later_blocks bytes number = blocks_between bytes number (block_count bytes)

-- the kind of the block before a number. (None is before block 0)
unfoldable pub kind_before : List ℕ → ℕ → ℕ
kind_before bytes zero = 0
kind_before bytes (suc number) = kind_in (block_at bytes number)

-- the number of the first block of labels, behind block 0 and the blocks of samples. (Without labels, the number of blocks)
abbrev pub label_start : List ℕ → ℕ
label_start bytes = suc (before_labels (later_blocks bytes 1))

-- there are as many blocks of samples as so many traces need in a format, and all their label blocks or none
pub record RightNumbers (f : Format) (bytes : List ℕ) (count n : ℕ) : Type 0 where
  pub sampled : label_start bytes ≡ suc (sample_blocks_needed f count n)
  pub labelled : (label_start bytes ≡ block_count bytes → ⊥) → block_count bytes ≡ label_start bytes + label_blocks_needed count

-- ---- what some of the blocks carry

-- the bytes that cells take, `size` of each block
abbrev pub cells_between : ℕ → List ℕ → ℕ → ℕ → List ℕ
cells_between size bytes from to = flatten (map (λ (b : List ℕ). take size (carried_in b)) (blocks_between bytes from to))

-- the bytes that no cell can take
abbrev pub spare_between : ℕ → List ℕ → ℕ → ℕ → List ℕ
spare_between size bytes from to = flatten (map (λ (b : List ℕ). drop size (carried_in b)) (blocks_between bytes from to))

-- the bytes that must be 0, of blocks whose cells take so many bytes in all
abbrev pub zeros_between : ℕ → ℕ → List ℕ → ℕ → ℕ → List ℕ
zeros_between size taken bytes from to = spare_between size bytes from to ++ drop taken (cells_between size bytes from to)

-- so many bytes of cells fill so many blocks, the last one in part. (Where there is no block, nothing is said)
pub record Fills (size blocks taken : ℕ) : Type 0 where
  pub above : (blocks - 1) * size ≤ taken
  pub within : (blocks ≡ 0 → ⊥) → taken ≤ blocks * size
