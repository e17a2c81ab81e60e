-- `tables::control::records_needed` meets its contract: the definition's difference of 0 and 1 is 0, too.
use native.Mathlib.Omega.{arith}
use Rattle.dstree.specs.Measures.{records_needed}
use Rattle.tables.proofs.control.records_needed.Goals as goal

pub returns : goal.returns
unfolding records_needed
returns c = λ n leaf_size. omega (arith, c.saturating_sub.ensures)
