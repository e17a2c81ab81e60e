-- `segment_bound::terms::spread_term` meets its contract: the difference of two sums of 27 bits has 28, and its square and a scatter have at most
-- 57.
use mathlib.Core.Path.{◌≡◌, ap, ◌∙◌}
use Prim.Native.Nat.{ℕ, ◌+◌, ◌*◌, ◌/◌, ◌^◌, ◌≤◌}
use native.Mathlib.Nat.{mul-le-mul, div-le_self}
use native.Mathlib.Omega.{arith}
use lib.IntN.{ℤ, nat_abs, ◌-ℤ◌}
use mir.Syntax.{w64}
use mir.Val.{SFits}
use Rattle.integer.specs.Words.{square}
use Rattle.integer.proofs.Order.{nat_abs_sub}
use Rattle.integer.proofs.Width.{read, fits_difference, read_difference}
use Rattle.segment.specs.Limits.{sum_room}
use Rattle.segment.specs.Terms.{spread_term}
use Rattle.segment_bound.proofs.terms.spread_term.Goals as goal

module _ {a b : ℤ} (fa : SFits w64 a) (fb : SFits w64 b) (ha : nat_abs a ≤ sum_room) (hb : nat_abs b ≤ sum_room) where
  fits : SFits w64 (read w64 a -ℤ read w64 b)
  fits = fits_difference fa fb (omega arith)

  difference : read w64 (read w64 a -ℤ read w64 b) ≡ a -ℤ b
  difference = read_difference fa fb (omega arith)

  bound : nat_abs (a -ℤ b) ≤ 2 * sum_room
  bound = omega (arith, nat_abs_sub a b)

squared : (c : goal.After-square) → c.square.result ≡ square (c.args.greatest_sum -ℤ c.args.least_sum)
squared c =
    c.square.ensures ∙ ap square (difference c.ranges.greatest_sum c.ranges.least_sum c.requires.3 c.requires.2)

most : (c : goal.After-square) → c.square.result ≤ 2 ^ 56
most c =
    let h = bound c.ranges.greatest_sum c.ranges.least_sum c.requires.3 c.requires.2 in
    omega (arith, squared c, mul-le-mul h h)

pub overflow_sub-greatest_sum : goal.overflow_sub-greatest_sum
overflow_sub-greatest_sum c = fits c.ranges.greatest_sum c.ranges.least_sum c.requires.3 c.requires.2

pub square-requires : goal.square-requires
square-requires c = rw (difference c.ranges.greatest_sum c.ranges.least_sum c.requires.3 c.requires.2) (bound c.ranges.greatest_sum c.ranges.least_sum c.requires.3 c.requires.2)

pub overflow_add-result : goal.overflow_add-result
overflow_add-result c = omega (arith, most c)

pub returns : goal.returns
unfolding spread_term
returns c = record { value = ap (λ (n : ℕ). (n + c.args.greatest_scatter) / c.args.w) (squared c); size = omega (arith, most c, div-le_self (c.square.result + c.args.greatest_scatter) c.args.w) }
