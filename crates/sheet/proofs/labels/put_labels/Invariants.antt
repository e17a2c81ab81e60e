-- `sheet::labels::put_labels` meets its contract: after j turns the bytes of the first j labels are put.
use mathlib.Core.Path.{◌≡◌}
use lib.ListN.{length, take}
use lib.Seq.{sets}
use Rattle.sheet.specs.LabelCodes.{label_codes}
use Rattle.sheet.proofs.labels.put_labels.Given as goal

abbrev pub invariant-loop-j : goal.invariant-loop-j
invariant-loop-j l = (l.bytes ≡ sets l.initial.bytes l.place (label_codes (take l.j l.labels))) × (length l.bytes ≡ length l.initial.bytes)
