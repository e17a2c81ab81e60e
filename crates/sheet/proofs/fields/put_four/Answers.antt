-- `sheet::fields::put_four` meets its contract: the first four bytes that the library makes of a number are the definition's.
use mathlib.Core.Path.{ap, ◌∙◌}
use lib.ListN.{take}
use lib.Seq.{sets}
use Rattle.sheet.proofs.Numbers.{first_four}
use Rattle.sheet.proofs.fields.put_four.Goals as goal

pub returns : goal.returns
returns c =
    c.put_bytes.ensures
    ∙ ap (sets c.args.bytes.now c.args.place) (ap (take 4) c.to_le_bytes.ensures ∙ first_four c.args.v)
