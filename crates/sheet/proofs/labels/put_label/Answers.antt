-- `sheet::labels::put_label` meets its contract: the first six bytes that the library makes of the number are the label's.
use mathlib.Core.Path.{ap, ◌∙◌}
use lib.ListN.{take}
use lib.Seq.{sets}
use Rattle.sheet.proofs.LabelsCoded.{first_six}
use Rattle.sheet.proofs.labels.put_label.Goals as goal

pub returns : goal.returns
returns c =
    c.put_bytes.ensures
    ∙ ap (sets c.args.bytes.now c.args.place) (ap (take 6) c.to_le_bytes.ensures ∙ first_six c.args.label)
