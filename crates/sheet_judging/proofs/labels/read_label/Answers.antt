-- `sheet_judging::labels::read_label` meets its contract: 84 labels in each block, from the first block of labels on.
use mathlib.Core.Path.{sym, ap, ◌∙◌}
use mathlib.Core.List.{List}
use Prim.Native.Nat.{ℕ, suc, ◌+◌, ◌*◌, ◌/◌, ◌%◌, ◌<◌}
use native.Mathlib.Omega.{arith}
use Rattle.dstree.specs.Sheet.{block_size, most_blocks, part, number_in, label_cells}
use Rattle.sheet_blocks.specs.Blocks.{block_count, label_start}
use Rattle.sheet_blocks.proofs.Places.{blocks}
use Rattle.sheet_judging.proofs.LabelsIn.{label_none, label_there, place_inside}
use Rattle.sheet_judging.proofs.labels.read_label.Goals as goal

-- with blocks of labels
module _ (c : goal.Else-start-sheet) where
  abbrev start : goal.Else-start-sheet
  start = c

  abbrev bytes : List ℕ
  bytes = start.args.sheet.now

  abbrev i : ℕ
  i = start.args.i

  inside : label_start bytes + i / label_cells.cells_per_block < block_count bytes
  inside = let room = start.requires.3 (λ e. c.if-start-sheet.false (start.requires.1 ∙ e)) in omega (arith, room)

  few : start.args.start + i / label_cells.cells_per_block < most_blocks
  few = omega (arith, inside, start.requires.1, (blocks bytes start.requires.0).few)

-- with blocks of labels
module _ (c : goal.After-label_at) where
  abbrev start_2 : goal.After-label_at
  start_2 = c

  abbrev bytes_2 : List ℕ
  bytes_2 = start_2.args.sheet.now

  abbrev i_2 : ℕ
  i_2 = start_2.args.i

  inside_2 : label_start bytes_2 + i_2 / label_cells.cells_per_block < block_count bytes_2
  inside_2 = let room = start_2.requires.3 (λ e. c.if-start-sheet.false (start_2.requires.1 ∙ e)) in omega (arith, room)

  -- where it stands
  abbrev place_2 : ℕ → ℕ
  place_2 first = (first + i_2 / label_cells.cells_per_block) * block_size + 4 + label_cells.cell_bytes * (i_2 % label_cells.cells_per_block)

pub returns-then-start-sheet : goal.returns-then-start-sheet
returns-then-start-sheet c =
    λ count h. label_none c.args.sheet.now c.requires.0 count c.args.i h (sym c.requires.1 ∙ c.if-start-sheet.true)

pub overflow_add-number : goal.overflow_add-number
overflow_add-number c = omega (arith, few c)

pub overflow_mul-number : goal.overflow_mul-number
overflow_mul-number c = omega (arith, few c)

pub overflow_add-number-2 : goal.overflow_add-number-2
overflow_add-number-2 c = omega (arith, few c)

pub overflow_add-number-3 : goal.overflow_add-number-3
overflow_add-number-3 c = omega (arith, few c)

pub label_at-requires : goal.label_at-requires
label_at-requires c =
    let s = start c in
    omega (arith, place_inside (bytes c) s.requires.0 (suc (i c)) (i c) (omega arith) (inside c), s.requires.1)

pub returns : goal.returns
returns c =
    let s = start_2 c in
    λ count h. c.label_at.ensures.0
    ∙ ap (λ (k : ℕ). number_in (part (place_2 c k) label_cells.cell_bytes (bytes_2 c))) s.requires.1
    ∙ label_there (bytes_2 c) s.requires.0 count (i_2 c) h (inside_2 c)
