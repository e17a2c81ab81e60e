-- The traces and labels that a sheet holds, by what its blocks say, and where a sample stands.
use Rattle.std.specs.Prelude.{ℕ, ◌+◌, ◌*◌, ◌-◌, ◌<◌, ◌≡◌, List, ℤ, drop}
use Rattle.dstree.specs.Measures.{Trace}
use Rattle.dstree.specs.Labels.{Label}
use Rattle.dstree.specs.Sheet.{Format, block_size, measures_in, count_in, sample_blocks_in, label_blocks_in, sample_bytes_in, traces_in_blocks}
use Rattle.dstree.specs.Sheet.{labels_in_blocks}
use Rattle.dstree.specs.SheetWidths.{format_in}
use Rattle.sheet.specs.Codes.{samples_in}
use Rattle.sheet_blocks.specs.Blocks.{block_at, later_blocks}

-- the samples of a trace, and how many traces there are, as block 0 says
abbrev pub size_of : List ℕ → ℕ
size_of bytes = (measures_in (block_at bytes 0)).n

abbrev pub count_of : List ℕ → ℕ
count_of bytes = count_in (block_at bytes 0)

-- the traces, in order, by the format that block 0 says
abbrev pub sheet_traces : List ℕ → List Trace
sheet_traces bytes = traces_in_blocks (format_in bytes) (count_of bytes) (size_of bytes) (sample_blocks_in (later_blocks bytes 1))

-- their labels
abbrev pub sheet_labels : List ℕ → List Label
sheet_labels bytes = labels_in_blocks (count_of bytes) (label_blocks_in (later_blocks bytes 1))

module _ (f : Format) where
  -- the number of a sample, by its block and how many of the block's samples lie before it. Block 0 carries none; "running on across
  -- blocks"
  abbrev pub sample_number : ℕ → ℕ → ℕ
  sample_number number used = (number - 1) * f.samples_per_block + used

  -- these are sample i's
  pub record IsAt (number used i : ℕ) : Type 0 where
    pub behind_head : 0 < number
    pub within : used < f.samples_per_block
    pub counted : sample_number number used ≡ i

  -- the first byte of a sample, "from byte 4"
  abbrev pub sample_place : ℕ → ℕ → ℕ
  sample_place number used = number * block_size + 4 + f.sample_bytes * used

  -- so many samples of a sheet, from a number on
  abbrev pub samples_from : List ℕ → ℕ → ℕ → List ℤ
  samples_from bytes first k = samples_in f k (drop (first * f.sample_bytes) (sample_bytes_in f (sample_blocks_in (later_blocks bytes 1))))
