-- `sheet_writing::filling::fill_label_block` meets its contract: the part that is lent is the block, and what lies before and behind it comes
-- back as it was.
use mathlib.Core.Path.{ap, ◌∙◌}
use mathlib.Core.List.{List}
use Prim.Native.Nat.{ℕ, ◌+◌, ◌*◌}
use native.Mathlib.Omega.{arith}
use borrow.Rule.Slice.PartMut.{Post-is}
use Rattle.dstree.specs.Sheet.{block_size, label_cells, label_kind, block}
use Rattle.sheet.specs.LabelCodes.{label_codes}
use Rattle.sheet_writing.specs.Filled.{with_block}
use Rattle.sheet_writing.proofs.Runs.{lent_run}
use Rattle.sheet_writing.proofs.filling.fill_label_block.Goals as goal

pub returns : goal.returns
returns c =
    let a = c.args in
    let sheet = a.sheet.now in
    let end = c.run_end-to in
    let from = a.i * label_cells.cells_per_block in
    let start = block_size * (a.first + a.i) in
    let run =
    lent_run label_cells.cells_per_block a.labels.now from end.result a.total
    end.ensures.0 end.ensures.1 end.ensures.2 end.ensures.3 c.requires.2 in
    let written = c.write_labels.ensures ∙ ap (λ (xs : List ℕ). block label_kind (a.first + a.i) (label_codes xs)) run in
    rw (Post-is start (start + block_size) sheet (omega arith)) (ap (with_block sheet (a.first + a.i)) written)
