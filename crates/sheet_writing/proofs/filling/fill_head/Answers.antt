-- `sheet_writing::filling::fill_head` meets its contract: the part that is lent is block 0, and what lies behind it comes back as it was.
use mathlib.Core.Path.{ap₂}
use mathlib.Core.List.{List, ◌++◌}
use Prim.Native.Nat.{ℕ}
use native.Mathlib.Omega.{arith}
use borrow.Rule.Slice.PartMut.{Post-is}
use Rattle.dstree.specs.Sheet.{block_size}
use Rattle.sheet_writing.proofs.filling.fill_head.Goals as goal

pub returns : goal.returns
returns c =
    let f = rw (
      c.field-n.ensures,
      c.field-capacity.ensures,
      c.field-leaf_size.ensures,
      c.field-k.ensures,
    ) at c.write_head.ensures in
    ap₂ (λ (x y : List ℕ). x ++ y) f (Post-is 0 block_size c.args.sheet.now (omega arith))
