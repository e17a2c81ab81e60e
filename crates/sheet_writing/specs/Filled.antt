-- A sheet as it is filled, block by block.
use Rattle.std.specs.Prelude.{ℕ, ◌+◌, ◌*◌, ◌≤◌, ℤ, length, take, drop}
use mathlib.Core.List.{List, [], ◌++◌, map, flatten}
use Rattle.dstree.specs.Measures.{most_samples, most_traces}
use Rattle.dstree.specs.Labels.{label_at}
use Rattle.dstree.specs.Sheet.{part, pieces, block_size, Format, Cells, sample_cells, label_cells, label_kind, cells_size, block, blocks_from}
use Rattle.dstree.specs.Sheet.{coded_all, blocks_needed_as}
use Rattle.sheet.specs.LabelCodes.{label_codes}
use Rattle.tables.specs.Layout.{n_place, trace_count_place}
use Rattle.tables.specs.Tables.{Tables, labelled_tables, field}

-- what of the tables a sheet takes: control record, samples and labels
abbrev pub sheet_tables : List ℕ → List ℤ → List ℕ → Tables
sheet_tables control samples labels = labelled_tables control samples [] [] [] labels

-- a sheet with other bytes for one of its blocks
abbrev pub with_block : List ℕ → ℕ → List ℕ → List ℕ
with_block sheet number bytes = take (block_size * number) sheet ++ (bytes ++ drop (block_size * number + block_size) sheet)

-- .. and for so many of them, from one on
abbrev pub with_blocks : List ℕ → ℕ → ℕ → List ℕ → List ℕ
with_blocks sheet first count bytes = take (block_size * first) sheet ++ bytes ++ drop (block_size * (first + count)) sheet

-- so many blocks, numbered from one on, of cells that are these bytes
abbrev pub cell_blocks : Cells → ℕ → ℕ → List ℕ → List ℕ
cell_blocks c first count bytes = flatten (blocks_from c.cell_kind first (pieces (cells_size c) count bytes))

module _ (f : Format) where
  -- block 1 + i of these samples: "253 samples each", or 126
  abbrev pub sample_block : List ℤ → ℕ → List ℕ
  sample_block samples i = block f.sample_kind (1 + i) (coded_all f (part (i * f.samples_per_block) f.samples_per_block samples))

  -- a sheet with as many blocks of samples behind block 0
  abbrev pub with_samples : List ℕ → ℕ → List ℤ → List ℕ
  with_samples sheet count samples = with_blocks sheet 1 count (cell_blocks (sample_cells f) 1 count (coded_all f samples))

-- the block of these labels behind i others, the first of which has this number: "84 labels of 6 bytes each"
abbrev pub label_block : List ℕ → ℕ → ℕ → List ℕ
label_block places first i =
    block label_kind (first + i) (label_codes (part (i * label_cells.cells_per_block) label_cells.cells_per_block places))

-- a sheet with as many blocks of labels from a number on
abbrev pub with_label_blocks : List ℕ → ℕ → ℕ → List ℕ → List ℕ
with_label_blocks sheet first count places = with_blocks sheet first count (cell_blocks label_cells first count (label_codes places))

-- a control record whose counts and measures are in range, samples and labels for every trace, and a sheet with room for every block of a
-- format
pub record Fillable (control : List ℕ) (samples : List ℤ) (labels : List ℕ) (f : Format) (sheet : ℕ) : Type 0 where
  pub count_few : field control trace_count_place ≤ most_traces
  pub n_few : field control n_place ≤ most_samples
  pub samples_long : field control trace_count_place * field control n_place ≤ length samples
  pub labels_long : field control trace_count_place ≤ length labels
  pub sheet_long : block_size
      * blocks_needed_as f (field control trace_count_place) (field control n_place) (map label_at (take (field control trace_count_place) labels))
      ≤ sheet
