-- `tables::control::samples_needed` meets its contract: the product is the definition's, and at most 4,096 × 256.
use mathlib.Core.Path.{refl}
use Rattle.dstree.specs.Measures.{samples_needed}
use Rattle.tables.proofs.Range.{samples_fit}
use Rattle.tables.proofs.control.samples_needed.Goals as goal

pub overflow_mul-result : goal.overflow_mul-result
overflow_mul-result c = record { fits = samples_fit c.args.capacity c.args.n c.requires.1 c.requires.0 }

pub returns : goal.returns
unfolding samples_needed
returns c = λ leaf_size. refl
