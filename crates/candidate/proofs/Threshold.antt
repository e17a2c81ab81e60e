-- A threshold is the sum of two figures, each within the limit of a scatter: how they and their sum are read back from 64 bits.
use mathlib.Core.Path.{◌≡◌, ap₂, ◌∙◌}
use Prim.Native.Nat.{◌*◌, ◌≤◌}
use native.Mathlib.Omega.{arith}
use lib.IntN.{ℤ, nat_abs, ◌+ℤ◌}
use mir.Syntax.{w64}
use mir.Val.{SFits}
use mir.Facts.{to_z-of_z}
use Rattle.integer.proofs.Order.{nat_abs_add}
use Rattle.integer.proofs.Width.{small, read}
use Rattle.segment.specs.Limits.{scatter_most}
use Rattle.dstree.specs.Measures.{most_samples}

module _ (low high : ℤ) (h : nat_abs low ≤ scatter_most most_samples) (k : nat_abs high ≤ scatter_most most_samples) where
  pub low_back : read w64 low ≡ low
  low_back = to_z-of_z (small {w = w64} {z = low} (omega (arith, h)))

  pub high_back : read w64 high ≡ high
  high_back = to_z-of_z (small {w = w64} {z = high} (omega (arith, k)))

  pub sum_small : nat_abs (low +ℤ high) ≤ 2 * scatter_most most_samples
  sum_small = omega (arith, nat_abs_add low high, h, k)

  pub sum_fits : SFits w64 (read w64 low +ℤ read w64 high)
  sum_fits = rw (low_back, high_back) (small {w = w64} (omega (arith, sum_small)))

  pub sum_back : read w64 (read w64 low +ℤ read w64 high) ≡ low +ℤ high
  sum_back = to_z-of_z sum_fits ∙ ap₂ ◌+ℤ◌ low_back high_back
