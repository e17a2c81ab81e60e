-- `sheet_judging::labels::labels_zero` meets its contract. The loop's invariant: all labels are zero exactly if those from number i on are.
use mathlib.Core.Path.{◌≡◌}
use lib.ListN.{drop}
use Rattle.dstree.specs.Labels.{are_zero_labels}
use Rattle.dstree.specs.Sheet.{labels_in_blocks}
use Rattle.sheet_judging.specs.LabelBlocks.{label_blocks}
use Rattle.sheet_judging.proofs.labels.labels_zero.Given as goal

abbrev pub invariant-loop-i : goal.invariant-loop-i
invariant-loop-i l =
    are_zero_labels (labels_in_blocks l.count (label_blocks l.sheet)) ≡ are_zero_labels (drop l.i (labels_in_blocks l.count (label_blocks l.sheet)))
