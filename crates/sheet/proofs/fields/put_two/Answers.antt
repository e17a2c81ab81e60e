-- `sheet::fields::put_two` meets its contract: the two bytes that the library makes of a number are the definition's.
use mathlib.Core.Path.{ap, ◌∙◌}
use lib.Seq.{sets}
use Rattle.dstree.specs.Sheet.{bytes_of}
use Rattle.sheet.proofs.fields.put_two.Goals as goal

pub returns : goal.returns
unfolding bytes_of
returns c = c.put_bytes.ensures ∙ ap (sets c.args.bytes.now c.args.place) c.to_le_bytes.ensures
