-- `tables::label_table::code_in` meets its contract: the low 16 bits.
use mathlib.Core.Path.{refl}
use Rattle.dstree.specs.Labels.{label_at}
use Rattle.tables.proofs.label_table.code_in.Goals as goal

pub returns : goal.returns
unfolding label_at
returns c = refl
