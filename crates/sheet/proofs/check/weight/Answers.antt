-- `sheet::check::weight` meets its contract: the products are small.
use mathlib.Core.Path.{ap₂}
use Prim.Native.Nat.{ℕ, ◌+◌, ◌*◌, ◌≤◌, ◌<◌}
use native.Mathlib.Nat.{mul-le-mul}
use native.Mathlib.Omega.{arith}
use Rattle.sheet.specs.Columns.{columns, most_sum}
use Rattle.sheet.proofs.check.weight.Goals as goal

small : (column sum : ℕ) → column < columns → sum ≤ most_sum → (column + 1) * sum ≤ columns * most_sum
small column sum h k = mul-le-mul {n₁ = column + 1} {m₁ = sum} {n₂ = columns} {m₂ = most_sum} (omega arith) k

pub overflow_mul-result : goal.overflow_mul-result
overflow_mul-result c = omega (arith, small c.args.column c.from.result c.requires.0 (omega arith))

pub overflow_add-result-2 : goal.overflow_add-result-2
overflow_add-result-2 c = omega (arith, small c.args.column c.from.result c.requires.0 (omega arith))

pub returns : goal.returns
returns c = (
  ap₂ (λ (sum later : ℕ). (c.args.column + 1) * sum + columns * later) c.from.ensures c.from-2.ensures,
  omega (arith, small c.args.column c.from.result c.requires.0 (omega arith)),
)
