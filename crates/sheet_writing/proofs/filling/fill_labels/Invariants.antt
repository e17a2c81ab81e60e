-- `sheet_writing::filling::fill_labels` meets its contract: before turn i, i blocks of labels stand.
use mathlib.Core.Path.{◌≡◌}
use lib.ListN.{length, take}
use Rattle.sheet_writing.specs.Filled.{with_label_blocks}
use Rattle.sheet_writing.proofs.filling.fill_labels.Given as goal

abbrev pub invariant-loop-i : goal.invariant-loop-i
invariant-loop-i l =
    (l.sheet ≡ with_label_blocks l.initial.sheet l.first l.i (take l.total l.labels)) × (length l.sheet ≡ length l.initial.sheet)
