-- `tables::label_table::serial_in` meets its contract: the next 32 bits.
use mathlib.Core.Path.{refl}
use Rattle.dstree.specs.Labels.{label_at}
use Rattle.tables.proofs.label_table.serial_in.Goals as goal

pub returns : goal.returns
unfolding label_at
returns c = refl
