-- `sheet_writing::judging::sample_blocks` meets its contract: `blocks_for` rounds up, and no library needs more blocks than a sheet may have.
use Prim.Native.Nat.{◌*◌, ◌≤◌}
use native.Mathlib.Omega.{arith}
use native.Mathlib.Nat.{mul-le-mul}
use Rattle.dstree.specs.SheetWidths.{format_by}
use Rattle.dstree.proofs.SheetFormat.{needed_most}
use Rattle.dstree.proofs.SheetWidths.{half_by, format_sound}
use Rattle.sheet.specs.Formats.{says_wide}
use Rattle.sheet_writing.proofs.judging.sample_blocks.Goals as goal
use Rattle.sheet_writing.proofs.judging.sample_blocks.Goals.{Start}

few : (s : Start) → s.args.k * s.args.n ≤ 1048576
few s = mul-le-mul {n₁ = s.args.k} {m₁ = s.args.n} {n₂ = 4096} {m₂ = 256} s.requires.0 s.requires.1

pub overflow_mul-k : goal.overflow_mul-k
overflow_mul-k c = omega (arith, few c)

pub blocks_for-requires : goal.blocks_for-requires
blocks_for-requires c = omega (arith, few c)

pub returns : goal.returns
returns c =
    let a = c.args in (
      c.blocks_for.ensures,
      omega (arith, c.blocks_for.ensures, needed_most (format_by (says_wide a.format)) (half_by (says_wide a.format)) (format_sound (says_wide a.format)) a.k a.n c.requires.0 c.requires.1),
    )
