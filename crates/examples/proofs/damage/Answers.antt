-- `examples::damage` meets its contract: three sheets of 1,024, 1,024 and 512 bytes have room in 2,560.
use mathlib.Core.Path.{◌∙◌}
use lib.ListN.{length-set}
use Rattle.examples.specs.Steps.{damaged}
use Rattle.examples.proofs.damage.Goals as goal

pub shape_of-sheets : goal.shape_of-sheets
shape_of-sheets c =
    simp length-set (c.put_bytes-3.auto.bytes ∙ (c.put_bytes-2.auto.bytes ∙ c.put_bytes.auto.bytes))

pub returns : goal.returns
unfolding damaged
returns c =
    rw (c.put_bytes-3.ensures, c.put_bytes-2.ensures, c.put_bytes.ensures)
