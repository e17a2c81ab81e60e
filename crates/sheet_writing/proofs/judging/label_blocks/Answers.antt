-- `sheet_writing::judging::label_blocks` meets its contract: all blocks, or none.
use mathlib.Core.Path.{◌≡◌, sym, ap, ◌∙◌}
use mathlib.Core.Bool.{true, false}
use mathlib.Core.List.{List, map, flatten}
use Prim.Native.Nat.{ℕ}
use native.Mathlib.Omega.{arith}
use lib.ListN.{length, take, length-map}
use lib.Seq.{length-take-le}
use borrow.Author.Tests.{not-true, not-false}
use Rattle.integer.specs.Words.{rounded_up}
use Rattle.dstree.specs.Labels.{Label, are_zero_labels, label_at}
use Rattle.dstree.specs.Sheet.{label_cells, cells_size, cell_blocks_needed, label_blocks_needed, label_bytes, label_parts}
use Rattle.dstree.proofs.SheetPieces.{pieces_length}
use Rattle.dstree.proofs.SheetWritten.{none_written, all_written}
use Rattle.sheet_writing.proofs.judging.label_blocks.Goals as goal

module _ (a : goal.Then-any_label) where
  abbrev start : goal.Then-any_label
  start = a

  abbrev k : ℕ
  k = start.args.k

  abbrev labels : List Label
  labels = map label_at (take k start.args.labels.now)

  each_one : length labels ≡ k
  each_one = length-map (take k start.args.labels.now) label_at ∙ length-take-le k start.args.labels.now start.requires.0

module _ (a : goal.Else-any_label) where
  abbrev start_2 : goal.Else-any_label
  start_2 = a

  abbrev k_2 : ℕ
  k_2 = start_2.args.k

  abbrev labels_2 : List Label
  labels_2 = map label_at (take k_2 start_2.args.labels.now)

pub overflow_add-result : goal.overflow_add-result
overflow_add-result c = omega (arith, (start c).requires.1)

pub returns-then-any_label : goal.returns-then-any_label
unfolding cell_blocks_needed rounded_up
returns-then-any_label c =
    let some : are_zero_labels (labels c) ≡ false = not-true (are_zero_labels (labels c)) (sym c.any_label.ensures ∙ c.if-any_label.true) in
    let all : label_blocks_needed (k c) ≡ length (label_parts (labels c)) =
    sym (ap (λ (l : List (List ℕ)). length l) (all_written (labels c) some)
    ∙ pieces_length (cells_size label_cells) (label_blocks_needed (length (labels c))) (flatten (map label_bytes (labels c)))
    ∙ ap label_blocks_needed (each_one c)) in
    (all, omega arith)

pub returns : goal.returns
returns c =
    let zero : are_zero_labels (labels_2 c) ≡ true = not-false (are_zero_labels (labels_2 c)) (sym c.any_label.ensures ∙ c.if-any_label.false) in
    (sym (ap (λ (l : List (List ℕ)). length l) (none_written (labels_2 c) zero)), omega arith)
