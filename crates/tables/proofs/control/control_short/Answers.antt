-- `tables::control::control_short` meets its contract: the definition looks at the control record's length alone.
use mathlib.Core.Path.{refl}
use Rattle.dstree.specs.Book.{control_short}
use Rattle.tables.proofs.control.control_short.Goals as goal

pub returns : goal.returns
unfolding control_short
returns c = λ samples nodes links work labels. refl
