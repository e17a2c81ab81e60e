-- `sheet_reading::labels::put_labels` meets its contract: after i turns the first i labels are put.
use mathlib.Core.Path.{◌≡◌}
use mathlib.Core.List.{map}
use lib.ListN.{length}
use lib.Seq.{paste}
use Rattle.dstree.specs.Labels.{label_place}
use Rattle.sheet_blocks.specs.Traces.{sheet_labels}
use Rattle.sheet_reading.proofs.labels.put_labels.Given as goal

abbrev pub invariant-loop-i : goal.invariant-loop-i
invariant-loop-i l =
    (l.labels ≡ paste l.initial.labels 0 (map label_place (sheet_labels l.sheet)) l.i) × (length l.labels ≡ length l.initial.labels)
