-- `sheet::blocks::seal` meets its contract: the check is put behind the bytes that it is of.
use mathlib.Core.Path.{ap, ◌∙◌}
use Prim.Native.Nat.{ℕ}
use native.Mathlib.Omega.{arith}
use lib.Seq.{sets}
use Rattle.dstree.specs.Sheet.{bytes_of, checked_size}
use Rattle.dstree.proofs.SheetBlocks.{check_small}
use Rattle.sheet.proofs.Laid.{sealed_is}
use Rattle.sheet.proofs.blocks.seal.Goals as goal

pub overflow_cast-check : goal.overflow_cast-check
overflow_cast-check c = omega (arith, c.check_of-check.ensures, check_small c.args.part.now)

pub returns : goal.returns
returns c =
    let l = c.args.part.now in
    c.put_two.ensures
    ∙ ap (λ (k : ℕ). sets l checked_size (bytes_of 2 k)) c.check_of-check.ensures
    ∙ sealed_is l c.requires
