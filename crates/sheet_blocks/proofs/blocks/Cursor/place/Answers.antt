-- `sheet_blocks::blocks::Cursor::place` meets its contract.
use mathlib.Core.Path.{ap₂}
use Prim.Native.Nat.{ℕ, ◌+◌, ◌*◌, ◌≤◌}
use native.Mathlib.Nat.{mul-le-mul}
use native.Mathlib.Omega.{arith}
use Rattle.sheet.specs.Formats.{says_wide}
use Rattle.sheet_blocks.proofs.Places.{each_most}
use Rattle.sheet_blocks.proofs.blocks.Cursor.place.Goals as goal

-- the bytes of the samples before it
few : (c : goal.After-struct_known-1) → c.sample_bytes.result * c.args.self.used ≤ 4 * 253
few c =
    mul-le-mul {n₁ = c.sample_bytes.result} {m₁ = c.args.self.used} {n₂ = 4} {m₂ = 253} c.sample_bytes.ensures.size.1
    (omega (arith, c.requires.1, (each_most (says_wide c.args.format)).1))

pub overflow_mul-result : goal.overflow_mul-result
overflow_mul-result c = omega (arith, few c)

pub overflow_add-result-2 : goal.overflow_add-result-2
overflow_add-result-2 c = omega (arith, few c, c.start.ensures, c.requires.0)

pub returns : goal.returns
returns c =
    ap₂ (λ (x y : ℕ). x + 4 + y * c.args.self.used) c.start.ensures c.sample_bytes.ensures.value
