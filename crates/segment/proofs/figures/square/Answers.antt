-- `segment::figures::square` meets its contract: the square of a number of 28 bits has 56, so that the product does not wrap, and it is not
-- negative.
use mathlib.Core.Path.{◌≡◌, sym, ap, ◌∙◌}
use Prim.Native.Nat.{◌*◌, ◌^◌, ◌≤◌}
use native.Mathlib.Nat.{mul-le-mul}
use native.Mathlib.Omega.{arith}
use lib.IntN.{ℤ, pos, nat_abs, ◌*ℤ◌}
use mir.Syntax.{w64}
use mir.Val.{SFits}
use mir.Facts.{to_z-of_z}
use Rattle.integer.specs.Words.{square}
use Rattle.integer.proofs.Order.{nat_abs_square}
use Rattle.integer.proofs.Width.{small, read}
use Rattle.segment.specs.Limits.{sum_room}
use Rattle.segment.proofs.figures.square.Goals as goal

module _ (z : ℤ) (f : SFits w64 z) (h : nat_abs z ≤ 2 * sum_room) where
  bound : square z ≤ 2 ^ 56
  bound = omega (arith, mul-le-mul h h)

  product : read w64 z *ℤ read w64 z ≡ pos (square z)
  product = ap (λ (x : ℤ). x *ℤ x) (to_z-of_z f) ∙ sym (nat_abs_square z)

  result : read w64 (read w64 z *ℤ read w64 z) ≡ pos (square z)
  result = ap (read w64) product ∙ to_z-of_z (small {w = w64} (omega (arith, bound)))

pub overflow_mul-result : goal.overflow_mul-result
overflow_mul-result c = rw (product c.args.z c.ranges.z c.requires) (small (omega (arith, bound c.args.z c.ranges.z c.requires)))

pub overflow_cast-result : goal.overflow_cast-result
overflow_cast-result c = rw (result c.args.z c.ranges.z c.requires) (tt, record { fits = omega (arith, bound c.args.z c.ranges.z c.requires) })

pub returns : goal.returns
returns c = rw (result c.args.z c.ranges.z c.requires)
